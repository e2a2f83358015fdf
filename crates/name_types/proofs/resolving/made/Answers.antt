use Rattle.std.proofs.Common.{◌≡◌, length, arith}
use Rattle.je_scopes.specs.SourceTypes.{arity_of}
use Rattle.name_sites.specs.View.{source_of}
use Rattle.name_types.proofs.Bases.{wrong_count, no_arguments, with_arguments}
use Rattle.name_types.proofs.resolving.made.Goals as goal

pub returns-then-len-arity : goal.returns-then-len-arity
returns-then-len-arity c = λ ts n e. wrong_count (source_of c.args.sites.now) c.args.class c.args.types ts n
    (λ q. let l = c.len.ensures in let a = c.arity.ensures in let d = c.if-len-arity.true in absurd (omega (arith, q, l, a, d)))

pub returns-then-is_empty : goal.returns-then-is_empty
returns-then-is_empty c = λ ts n e.
    let l = c.len.ensures in let a = c.arity.ensures in let d = c.if-len-arity.false in
    let h : length c.args.types.items ≡ arity_of (source_of c.args.sites.now) c.args.class.0 = omega (arith, l, a, d) in
    let z : length c.args.types.items ≡ 0 = grind (arith, c.is_empty.ensures, c.if-is_empty.true) in
    no_arguments (source_of c.args.sites.now) c.args.class c.args.types ts n h z e

pub returns-else-is_empty : goal.returns-else-is_empty
returns-else-is_empty c = λ ts n e.
    let l = c.len.ensures in let a = c.arity.ensures in let d = c.if-len-arity.false in
    let h : length c.args.types.items ≡ arity_of (source_of c.args.sites.now) c.args.class.0 = omega (arith, l, a, d) in
    with_arguments (source_of c.args.sites.now) c.args.class c.args.types ts n h e
