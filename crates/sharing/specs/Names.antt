-- The names of the sharing rules.
use Rattle.std.specs.Prelude.{ℕ, if◌then◌else◌, List, Some, None, codes, Option}
use Rattle.std.specs.Str.{bytes_eq}
use Rattle.sharing.specs.declared.shipped.Rule.{Rule}
use Rattle.sharing.specs.declared.shipped.Rule.TheVariants.{Water, Even}

-- the name of each rule
abbrev pub rule_name : Rule → List ℕ
rule_name Water = codes "water"
rule_name Even = codes "even"

-- the rule of a name, which is compared whole
abbrev pub rule_of : List ℕ → Option Rule
rule_of name = if bytes_eq name (rule_name Water) then Some Water else (if bytes_eq name (rule_name Even) then Some Even else None)
