-- An expression stands where what it mentions does, and new arrays have lengths.
use Rattle.std.proofs.Common.{◌≡◌, ℕ, ◌+◌, ◌<◌, List, ◌++◌, refl, ap, subst}
use Rattle.std.specs.Prelude.{flat_map}
use Rattle.je_core.specs.Core.{CoreProgram}
use Rattle.je_ast.specs.Trees.{Expression, Expressions}
use Rattle.je_ast.specs.Trees as tree
use Rattle.je_classes.specs.Members.{In, first as at_first, further as and_further}
use Rattle.je_classes.proofs.Sets.{in-left, in-right}
use Rattle.je_fitting.specs.Expressions.{Body}
use Rattle.name_typing.specs.Program.{Program}
use Rattle.body_typing.specs.Bodies.{Met, met_by, met_in_expression}
use Rattle.body_typing.specs.Expressions.{Known}
use Rattle.body_typing.specs.FinalVariables.{Scope}
use Rattle.body_typing.specs.Mentions.{Mention, all_mentions, made, made_with_body, mentions, named}
use Rattle.fitting_laws.specs.Walk.{AllStand, Stands}
use Rattle.fitting_laws.specs.Walk as walk
use Rattle.body_laws.specs.Bodies.{BodyStands, CanBeMentioned, IsAlike, IsAmong, IsInBody, MentionStands}
use Rattle.body_laws.specs.Written.{AllAreWritten, IsWritten, count}

in-flat : {A B : Type 0} (f : A → List B) (xs : List A) (x : A) (y : B) → In xs x → In (f x) y → In (flat_map f xs) y
in-flat f _ x y (at_first {xs = xs}) h = in-left (flat_map f xs) h
in-flat f _ x y (and_further {x = z} {xs = xs} i) h = in-right (f z) (in-flat f xs x y i h)

module _ (p : Program) (k : Known) (q : CoreProgram) (body : Body) (s : Scope) where
  -- all of a list that the grammar gives
  abbrev All : List Mention → Type 0
  All ms = (m : Mention) → In ms m → CanBeMentioned m → MentionStands p k q body s m

  same-count : (es : Expressions) → count es ≡ walk.count p k q body s es
  same-count tree.no_expressions = refl
  same-count (tree.more_expressions e es) = ap (λ (n : ℕ). n + 1) (same-count es)

  lefts : (ms ns : List Mention) → All (ms ++ ns) → All ms
  lefts ms ns f m i = f m (in-left ns i)

  rights : (ms ns : List Mention) → All (ms ++ ns) → All ns
  rights ms ns f m i = f m (in-right ms i)

  mutual
    pub stands : (e : Expression) → IsWritten e → All (mentions e) → Stands p k q body s e
    stands (tree.literal l span) h f = tt
    stands (tree.name id) h f = f (named id) at_first tt
    stands (tree.this span) h f = tt
    stands (tree.outer_this n word span) h f = tt
    stands (tree.parens e span) h f = stands e h f
    stands (tree.select e id span) h f = stands e h f
    stands (tree.super_select word id span) h f = tt
    stands (tree.call id es span) h f = all-stand es h f
    stands (tree.call_on e id es span) h f = (stands e h.0 (lefts (mentions e) (all_mentions es) f), all-stand es h.1 (rights (mentions e) (all_mentions es) f))
    stands (tree.super_call word id es span) h f = all-stand es h f
    stands (tree.index e i span) h f = (stands e h.0 (lefts (mentions e) (mentions i) f), stands i h.1 (rights (mentions e) (mentions i) f))
    stands (tree.new_object word t es span) h f = (f (made t) at_first h.0, all-stand es h.1 (λ m i. f m (and_further i)))
    stands (tree.new_anonymous word t es inner span) h f = (f (made_with_body word t es) at_first tt, all-stand es h.1 (λ m i. f m (and_further i)))
    stands (tree.new_array t es dims span) h f = (subst (λ (n : ℕ). 0 < n) (same-count es) h.0, all-stand es h.1 f)
    stands (tree.new_array_of t dims e span) h f = (h.0, stands e h.1 f)
    stands (tree.array_init es span) h f = all-stand es h f
    stands (tree.cast t e span) h f = stands e h f
    stands (tree.prefix o at e span) h f = stands e h f
    stands (tree.postfix o at e span) h f = stands e h f
    stands (tree.binary o at e g span) h f = (stands e h.0 (lefts (mentions e) (mentions g) f), stands g h.1 (rights (mentions e) (mentions g) f))
    stands (tree.instance_of at e t span) h f = stands e h f
    stands (tree.conditional at c e g span) h f = let firsts = lefts (mentions c ++ mentions e) (mentions g) f in
        (stands c h.0 (lefts (mentions c) (mentions e) firsts), stands e h.1 (rights (mentions c) (mentions e) firsts), stands g h.2 (rights (mentions c ++ mentions e) (mentions g) f))
    stands (tree.assign o at e g span) h f = (stands e h.0 (lefts (mentions e) (mentions g) f), stands g h.1 (rights (mentions e) (mentions g) f))

    all-stand : (es : Expressions) → AllAreWritten es → All (all_mentions es) → AllStand p k q body s es
    all-stand tree.no_expressions h f = tt
    all-stand (tree.more_expressions e es) h f = (stands e h.0 (lefts (mentions e) (all_mentions es) f), all-stand es h.1 (rights (mentions e) (all_mentions es) f))

-- what is met in it is there
pub expression-stands : (p : Program) (k : Known) (q : CoreProgram) (body : Body) (start : Scope) (met : List Met) → BodyStands p k q body start met → (other s : Scope) (e : Expression) → IsAlike other s → IsInBody p k q body start s → IsWritten e
    → IsAmong (met_in_expression p other e) met → Stands p k q body s e
expression-stands p k q body start met known other s e alike h written among = stands p k q body s e written
    (λ m i can. known.mentions other s m alike h can (λ x j. among x (in-flat (met_by p other) (mentions e) m x i j)))
