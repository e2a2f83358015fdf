-- No expression is of height 0.
use Rattle.std.proofs.Common.{◌<◌, arith}
use Rattle.je_ast.specs.Trees.{Expression}
use Rattle.je_ast.specs.Trees as tree
use Rattle.je_ast.specs.Height.{height}

pub height_positive : (e : Expression) → 0 < height e
height_positive (tree.literal l s) = omega arith
height_positive _ = omega arith
