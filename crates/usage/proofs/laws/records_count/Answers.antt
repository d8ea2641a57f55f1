use Rattle.usage.proofs.Counting.{window_counts, not_due_counts}
use Rattle.usage.proofs.laws.records_count.Goals as goal

pub returns : goal.returns
returns c = record { window = window_counts; others = not_due_counts }
