-- The first stage leaves the sums over the class in c, which was zero, and the second takes them from there (`class_of`).
use Rattle.interpolants.proofs.Laws.Classes.{class_of}
use Rattle.interpolants.proofs.powersums.add_class.Goals as goal

pub returns : goal.returns
returns c = class_of _ _ _ _ _ c.gather.ensures c.scatter.ensures
