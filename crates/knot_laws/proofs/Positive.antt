-- No tree is of height 0.
use Rattle.std.proofs.Common.{◌<◌, arith}
use Rattle.je_ast.specs.Trees.{Expression, Statement, Member, Declaration}
use Rattle.je_ast.specs.Trees as tree
use Rattle.je_ast.specs.Height.{height, statement_height, member_height, declaration_height}

pub expression_positive : (e : Expression) → 0 < height e
expression_positive (tree.literal _ _) = omega arith
expression_positive (tree.name _) = omega arith
expression_positive (tree.this _) = omega arith
expression_positive (tree.outer_this _ _ _) = omega arith
expression_positive (tree.super_select _ _ _) = omega arith
expression_positive _ = omega arith

pub declaration_positive : (d : Declaration) → 0 < declaration_height d
declaration_positive (tree.class_declaration _ _ _ _ _ _ _) = omega arith
declaration_positive (tree.interface_declaration _ _ _ _ _ _) = omega arith
declaration_positive (tree.enum_declaration _ _ _ _) = omega arith

pub statement_positive : (b : Statement) → 0 < statement_height b
statement_positive (tree.local_class d) = declaration_positive d
statement_positive _ = omega arith

pub member_positive : (m : Member) → 0 < member_height m
member_positive (tree.member_type d) = declaration_positive d
member_positive _ = omega arith
