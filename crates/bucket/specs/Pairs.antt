-- A pair of buckets, seen as what it holds.
use Rattle.bucket.specs.Buckets.{PairUnits}
use Rattle.bucket.specs.declared.pair.BucketPair.{BucketPair}

abbrev pub units_of : BucketPair → PairUnits
units_of p = record { reserve = p.reserve; limit = p.limit }
