-- A type that a body names has no more than 255 dimensions, nor has one of its type arguments.
use Rattle.std.proofs.Common.{◌≡◌, ℕ, ◌≤◌, min, refl, ap, sym, ◌∙◌, arith}
use Rattle.je_ast.specs.Types.{TypeName, TypeNames, class_type, more_types, no_types, primitive}
use Rattle.je_scopes.specs.Looks.{Look, a_class, a_variable, nothing, unclear, waits}
use Rattle.je_scopes.specs.SourceTypes.{SourceType, SourceTypes, base_of, count, more_source_types, no_source_types, null_type, of_class, of_variable, plain}
use Rattle.header_typing.specs.WrittenTypes.{bounded, is_in_limit}
use Rattle.je_typing.specs.declared.fault.TypeRule.TheVariants.{BadArray, NotAccessible, UnknownName}
use Rattle.je_typing.specs.Judged.{Judged, faulty, gives, bind, check}
use Rattle.name_types.specs.View.{all_in_limit, in_limit}
use Rattle.name_typing.specs.Program.{Frame, Program}
use Rattle.body_types.specs.BodyTypes.{body_type, body_types, look_at, may_be_named, takes, type_at, type_of_look}
use Rattle.body_type_steps.proofs.Bases.{held}

-- what came of a step, and of the rest
record Came {A B : Type 0} (m : Judged A) (f : A → Judged B) (b : B) : Type 0 where
  first : A
  comes : m ≡ gives first
  rest : f first ≡ gives b

came : {A B : Type 0} (m : Judged A) (f : A → Judged B) (b : B) → bind m f ≡ gives b → Came m f b
unfolding bind
came (gives a) f b e = record { first = a; comes = refl; rest = e }
came (faulty fault) f b e = absurd (cc)

given : {A : Type 0} (a b : A) → gives a ≡ gives b → a ≡ b
given a b e = cc

least : (n : ℕ) → n ≤ 255 → min 255 n ≡ n
least n h = omega (arith, h)

module _ (p : Program) (here : Frame) where
  look-in-limit : (l : Look) (ts : SourceTypes) (n : ℕ) → all_in_limit ts ≡ ts → n ≤ 255 → in_limit (type_of_look p here l ts n) ≡ type_of_look p here l ts n
  look-in-limit waits ts n e h = ap null_type (least n h)
  look-in-limit nothing ts n e h = ap null_type (least n h)
  look-in-limit (a_class c) ts n e h = λ i. of_class c (e i) (least n h i)
  look-in-limit (a_variable c at) ts n e h = ap (of_variable c at) (least n h)
  look-in-limit unclear ts n e h = ap null_type (least n h)

  mutual
    pub type_in_limit : (t : TypeName) (u : SourceType) → body_type p here t ≡ gives u → in_limit u ≡ u
    type_in_limit (primitive word dims span) u e =
        let c = came (check BadArray span (is_in_limit dims)) (λ done. gives (plain (base_of word) dims)) u e in
        let h : dims ≤ 255 = held BadArray span (is_in_limit dims) c.first dims refl c.comes in
        let is : plain (base_of word) dims ≡ u = given (plain (base_of word) dims) u c.rest in
        ap in_limit (sym is) ∙ ap (plain (base_of word)) (least dims h) ∙ is
    type_in_limit (class_type q args dims span) u e =
        let c = came (body_types p here args) _ u e in
        let d = came (check UnknownName q.span (takes p here (look_at p here q.parts) (count args))) _ u c.rest in
        let f = came (bounded p.heads (type_at p here q c.first dims) args) _ u d.rest in
        let g = came (check NotAccessible q.span (may_be_named p here q.parts)) _ u f.rest in
        let k = came (check BadArray span (is_in_limit dims)) _ u g.rest in
        let h : dims ≤ 255 = held BadArray span (is_in_limit dims) k.first dims refl k.comes in
        let is : type_at p here q c.first dims ≡ u = given (type_at p here q c.first dims) u k.rest in
        ap in_limit (sym is) ∙ look-in-limit (look_at p here q.parts) c.first dims (types_in_limit args c.first c.comes) h ∙ is

    types_in_limit : (ts : TypeNames) (us : SourceTypes) → body_types p here ts ≡ gives us → all_in_limit us ≡ us
    types_in_limit no_types us e = let is : no_source_types ≡ us = given no_source_types us e in ap all_in_limit (sym is) ∙ is
    types_in_limit (more_types t ts) us e =
        let c = came (body_type p here t) _ us e in
        let d = came (body_types p here ts) _ us c.rest in
        let is : more_source_types c.first d.first ≡ us = given (more_source_types c.first d.first) us d.rest in
        ap all_in_limit (sym is)
        ∙ (λ i. more_source_types (type_in_limit t c.first c.comes i) (types_in_limit ts d.first d.comes i)) ∙ is
