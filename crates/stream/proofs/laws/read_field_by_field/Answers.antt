use Rattle.stream.proofs.Gathering.{by_fields}
use Rattle.stream.proofs.laws.read_field_by_field.Goals as goal

pub returns : goal.returns
returns c = by_fields
