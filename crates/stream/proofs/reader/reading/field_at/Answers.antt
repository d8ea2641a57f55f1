use Rattle.std.proofs.Common.{◌≡◌, drop, arith}
use Rattle.std.proofs.lemmas.Grind.{common_steps}
use Rattle.stream.specs.Fields.{field_from, plainly}
use Rattle.stream.proofs.Cutting.{in_place}
use Rattle.stream.proofs.reader.reading.field_at.Goals as goal

pub returns-clause-value : goal.returns-clause-value
returns-clause-value c =
    let e : plainly c.front.result ≡ field_from c.args.offset (drop c.args.offset c.args.input.now) = grind (arith, common_steps) in
    in_place c.args.offset c.args.input.now c.front.result c.requires e
