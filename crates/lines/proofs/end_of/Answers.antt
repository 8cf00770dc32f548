-- `lines::end_of` owes where the text goes on, by the head.
use Rattle.lines.proofs.Passing.{behind-plain, behind-operator, behind-factor}
use Rattle.lines.proofs.end_of.Goals as goal

pub returns-in-Plain : goal.returns-in-Plain
returns-in-Plain c = behind-plain c.args.head _ c.in-Plain.is

pub returns-in-Plain-2 : goal.returns-in-Plain-2
returns-in-Plain-2 c = behind-plain c.args.head _ c.in-Plain.is

pub returns-in-Add : goal.returns-in-Add
returns-in-Add c = behind-operator c.args.head _ c.in-Add.is

pub returns-in-Add-2 : goal.returns-in-Add-2
returns-in-Add-2 c = behind-operator c.args.head _ c.in-Add.is

pub returns-in-Times : goal.returns-in-Times
returns-in-Times c = behind-factor c.args.head _ c.in-Times.is

pub returns-in-Times-2 : goal.returns-in-Times-2
returns-in-Times-2 c = behind-factor c.args.head _ c.in-Times.is
