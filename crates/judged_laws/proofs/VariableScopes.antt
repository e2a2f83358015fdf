-- A name that means a type variable means one of its class or of a class round it.
use Rattle.std.proofs.Common.{◌≡◌, ℕ, zero, suc, List, [], ◌∷◌, Option, Some, None, subst}
use Rattle.std.specs.Prelude.{Bool, true, false, nat_eq, if◌then◌else◌, slice_get}
use Rattle.je_base.specs.declared.span.NameId.{NameId}
use Rattle.je_ast.specs.declared.name.Identifier.{Identifier}
use Rattle.je_ast.specs.Types.{QualifiedName}
use Rattle.je_classes.specs.Members.{In, first, further}
use Rattle.je_scopes.specs.Headers.{has_name, name_in, site_at}
use Rattle.je_scopes.specs.Looks.{Look, a_class, a_variable, found, joined, joined_over, nothing, or_further, unclear, waits}
use Rattle.je_scopes.specs.Scope.{Known, Part, at_top, declared, first_import, first_named, from_supers, header, in_class, in_scope, inherited, is_last_part, last_part, meaning, member, member_of, member_within, nearest, or_full_name, or_no_imports, outwards, part_outside, qualified, static_member, variable_for}
use Rattle.je_scopes.specs.Source.{Source, implicit_class, library_class}

-- a look-up that means only variables of these classes
abbrev pub IsOf : (ℕ → Type 0) → Look → Type 0
IsOf P look = (d at : ℕ) → look ≡ a_variable d at → P d

module _ (P : ℕ → Type 0) where
  of-found : (o : Option ℕ) → IsOf P (found o)
  of-found None = λ d at e. absurd cc
  of-found (Some c) = λ d at e. absurd cc

  of-further : (a b : Look) → IsOf P a → IsOf P b → IsOf P (or_further a b)
  of-further waits b p q = p
  of-further nothing b p q = q
  of-further (a_class c) b p q = p
  of-further (a_variable c at) b p q = p
  of-further unclear b p q = p

  of-two : (c : ℕ) (b : Bool) → IsOf P (if b then a_class c else unclear)
  of-two c true = λ d at e. absurd cc
  of-two c false = λ d at e. absurd cc

  of-joined : (a b : Look) → IsOf P b → IsOf P (joined a b)
  of-joined waits b q = λ d at e. absurd cc
  of-joined nothing b q = q
  of-joined (a_class c) waits q = λ d at e. absurd cc
  of-joined (a_class c) nothing q = λ d at e. absurd cc
  of-joined (a_class c) (a_class d) q = of-two c (nat_eq c d)
  of-joined (a_class c) (a_variable d to) q = λ k at e. absurd cc
  of-joined (a_class c) unclear q = λ d at e. absurd cc
  of-joined (a_variable c to) waits q = λ d at e. absurd cc
  of-joined (a_variable c to) nothing q = λ d at e. absurd cc
  of-joined (a_variable c to) (a_class k) q = λ d at e. absurd cc
  of-joined (a_variable c to) (a_variable k j) q = λ d at e. absurd cc
  of-joined (a_variable c to) unclear q = λ d at e. absurd cc
  of-joined unclear waits q = λ d at e. absurd cc
  of-joined unclear nothing q = λ d at e. absurd cc
  of-joined unclear (a_class k) q = λ d at e. absurd cc
  of-joined unclear (a_variable k j) q = λ d at e. absurd cc
  of-joined unclear unclear q = λ d at e. absurd cc

  of-over : (f : ℕ → Look) (cs : List ℕ) → IsOf P (joined_over f cs)
  of-over f [] = λ d at e. absurd cc
  of-over f (c ∷ cs) = of-joined (f c) (joined_over f cs) (of-over f cs)

  of-supers : (f : ℕ → Look) (ds : Option (List ℕ)) → IsOf P (from_supers f ds)
  of-supers f None = λ d at e. absurd cc
  of-supers f (Some ds) = of-over f ds

  of-unless : (c : ℕ) (b : Bool) → IsOf P (if b then a_class c else nothing)
  of-unless c true = λ d at e. absurd cc
  of-unless c false = λ d at e. absurd cc

  either-of : (a b : Look) (test : Bool) → IsOf P a → IsOf P b → IsOf P (if test then a else b)
  either-of a b true p q = p
  either-of a b false p q = q

  of-choice : (c : ℕ) (b : Look) (test : Bool) → IsOf P b → IsOf P (if test then a_class c else b)
  of-choice c b true q = λ d at e. absurd cc
  of-choice c b false q = q

  module _ (p : Source) (known : Known) where
    of-member : (n : ℕ) (x : NameId) (c : ℕ) → IsOf P (member_within p known n x c)
    of-member zero x c = λ d at e. absurd cc
    of-member (suc n) x c = of-further (declared p (Some c) x) _ (of-found _) (of-supers _ (known c))

    of-member-of : (x : NameId) (look : Look) → IsOf P (member_of p known x look)
    of-member-of x waits = λ d at e. absurd cc
    of-member-of x nothing = λ d at e. absurd cc
    of-member-of x (a_class c) = of-member _ x c
    of-member-of x (a_variable c to) = λ d at e. absurd cc
    of-member-of x unclear = λ d at e. absurd cc

    of-qualified : (look : Look) (is : List Identifier) → IsOf P look → IsOf P (qualified p known look is)
    of-qualified look [] h = h
    of-qualified look (i ∷ is) h = of-qualified (member_of p known i.name look) is (of-member-of i.name look)

    of-full : (parts : List Identifier) (look otherwise : Look) → IsOf P otherwise → IsOf P (or_full_name p parts look otherwise)
    of-full parts nothing otherwise h = of-found _
    of-full parts waits otherwise h = h
    of-full parts (a_class c) otherwise h = h
    of-full parts (a_variable c at) otherwise h = h
    of-full parts unclear otherwise h = h

    of-local : (x : NameId) (cs : List ℕ) → IsOf P (first_named p x cs)
    of-local x [] = λ d at e. absurd cc
    of-local x (c ∷ cs) = of-choice c _ (has_name (name_in (site_at p.sites c).written) x) (of-local x cs)

    of-import : (x : NameId) (qs : List QualifiedName) → IsOf P (first_import p.texts x qs)
    of-import x [] = λ d at e. absurd cc
    of-import x (q ∷ qs) =
        either-of _ _ (is_last_part x (last_part q.parts))
        (of-further (found (library_class p.texts q.parts)) _ (of-found _) (of-import x qs)) (of-import x qs)

    of-top : (unit : ℕ) (x : NameId) → IsOf P (at_top p unit x)
    of-top unit x =
        let imports = or_no_imports (slice_get p.imports unit) in
        of-further (first_import p.texts x imports) _ (of-import x imports)
        (of-further (declared p None x) _ (of-found _) (of-found (implicit_class p.texts x)))

    of-variable : (c : ℕ) (part : Part) (o : Option ℕ) → P c → IsOf P (variable_for c part o)
    of-variable c header None h = λ d at e. absurd cc
    of-variable c member None h = λ d at e. absurd cc
    of-variable c static_member None h = λ d at e. absurd cc
    of-variable c header (Some to) h = λ d at e. same d at e
      where
        same : (d at : ℕ) → a_variable c to ≡ a_variable d at → P d
        same d at e = let k : c ≡ d = cc in subst P k h
    of-variable c member (Some to) h = λ d at e. same d at e
      where
        same : (d at : ℕ) → a_variable c to ≡ a_variable d at → P d
        same d at e = let k : c ≡ d = cc in subst P k h
    of-variable c static_member (Some to) h = λ d at e. absurd cc

    of-class : (x : NameId) (part : Part) (c : ℕ) → P c → IsOf P (in_class p known x part c)
    of-class x header c h = of-variable c header _ h
    of-class x member c h = of-further (declared p (Some c) x) _ (of-found _)
        (of-further _ (inherited p known x c) (of-variable c member _ h) (of-supers _ (known c)))
    of-class x static_member c h = of-further (declared p (Some c) x) _ (of-found _)
        (of-further _ (inherited p known x c) (of-variable c static_member _ h) (of-supers _ (known c)))

    of-nearest : (x : NameId) (part : Part) (c : ℕ) → P c → IsOf P (nearest p known x part c)
    of-nearest x part c h = of-further (in_class p known x part c) _ (of-class x part c h) (of-local x _)

    of-outwards : (x : NameId) (part : Part) (c : ℕ) (ds : List ℕ) → P c → ((d : ℕ) → In ds d → P d) → IsOf P (outwards p known x part c ds)
    of-outwards x part c [] h k = of-further (nearest p known x part c) _ (of-nearest x part c h) (of-top _ x)
    of-outwards x part c (d ∷ ds) h k = of-further (nearest p known x part c) _ (of-nearest x part c h)
        (of-outwards x (part_outside part (site_at p.sites c).spot.context) d ds (k d first) (λ j i. k j (further i)))

    pub of-meaning : (c : ℕ) (part : Part) (parts : List Identifier) → P c → ((d : ℕ) → In (site_at p.sites c).spot.round d → P d) →
        IsOf P (meaning p known c part parts)
    of-meaning c part [] h k = λ d at e. absurd cc
    of-meaning c part (i ∷ is) h k =
        of-full (i ∷ is) (in_scope p known c part i.name) _
        (of-qualified (in_scope p known c part i.name) is (of-outwards i.name part c (site_at p.sites c).spot.round h k))
