use Rattle.c_ast.specs.TreeViews.{unit_of}
use Rattle.impactc_core.proofs.Fronts.{is_formed}
use Rattle.impactc_core.proofs.front.program_of_unit.Goals as goal

pub check-requires : goal.check-requires
check-requires c = record { formed = is_formed c.args.bytes.now (unit_of c.args.unit.now) c.type_inv.bytes c.requires.unit }
