-- The sharing rules that are chosen by name.
use Rattle.std.specs.Prelude.{ℕ}
use Rattle.usage.specs.declared.ServiceRecord.{ServiceRecord}
use Rattle.sharing.specs.declared.shipped.Rule.{Rule}
use Rattle.sharing.specs.declared.shipped.Rule.TheVariants.{Water, Even}
use Rattle.sharing.specs.Levels.{water_level, even_level}

-- each means what its name says
abbrev pub rule_level : Rule → ServiceRecord → ℕ
rule_level Water usage = water_level usage.recent
rule_level Even usage = even_level usage
