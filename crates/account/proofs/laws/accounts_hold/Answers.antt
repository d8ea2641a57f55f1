use Rattle.account.proofs.Holding.{account_laws}
use Rattle.account.proofs.laws.accounts_hold.Goals as goal

pub returns : goal.returns
returns c = account_laws
