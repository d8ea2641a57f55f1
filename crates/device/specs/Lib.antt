pub mod Meaning
pub mod Runs
pub mod Bays
pub mod Sweeps
pub mod Disks
pub mod Devices
