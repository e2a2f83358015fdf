-- Static and private methods have bodies.
use Rattle.std.proofs.Common.{◌≡◌, ℕ, zero, suc, ◌+◌, ◌<◌, ◌≤◌, ◌⊎◌, inl, inr, List, length, Option, Some, None, refl, sym, ap, ◌∙◌, subst}
use Rattle.std.specs.Prelude.{Bool, true, false, not, ◌&&◌, ◌||◌, filter, if◌then◌else◌, option_map, slice_get}
use Rattle.std.specs.List.{list_all}
use Rattle.std.proofs.lemmas.Bool.{cases_lt}
use Rattle.std.proofs.lemmas.Option.{none-some, same_Some, slice_get-map, slice_get_past}
use Rattle.je_core.specs.declared.program.Access.TheVariants as access
use Rattle.je_core.specs.Core.{CoreProgram}
use Rattle.je_ast.specs.declared.decl.Modifier.{Modifier}
use Rattle.je_ast.specs.declared.decl.ModifierKind.{ModifierKind}
use Rattle.je_ast.specs.declared.decl.ModifierKind.TheVariants as word
use Rattle.je_ast.specs.Trees.{Members}
use Rattle.je_ast.specs.Trees as tree
use Rattle.je_classes.specs.Members.{In, first, further}
use Rattle.je_classes.proofs.Lists.{bool_cases}
use Rattle.je_table.specs.Library.{Class, classes as class_rows}
use Rattle.je_table.specs.Rows.{Row}
use Rattle.je_scopes.specs.Headers.{is_interface_sort, members_in, site_at}
use Rattle.je_scopes.specs.Members.{MethodSite, method_sites, methods_of}
use Rattle.je_scopes.specs.Sites.{has_private, has_static, is_private_word, is_static_word}
use Rattle.je_scopes.specs.Source.{Source}
use Rattle.declarations.specs.Declarations.{DeclaredMethod, declared_class, declared_method, is_enum_sort}
use Rattle.declarations.specs.Words.{access_of, has_abstract, has_protected, has_public, is_abstract_word}
use Rattle.je_typing.specs.Judged.{gives}
use Rattle.je_typing.specs.declared.fault.TypeRule.TheVariants.{BadModifier}
use Rattle.library_classes.specs.Library.{is_method_of, rows}
use Rattle.library_declarations.specs.Library.{method_declared}
use Rattle.member_rules.specs.Modifiers.{allows, bad_modifier, clash}
use Rattle.member_rules.specs.declared.modifiers.Declared.{Declared}
use Rattle.member_rules.specs.declared.modifiers.Declared.TheVariants as what
use Rattle.member_rules.specs.declared.modifiers.Surrounding.TheVariants as inside
use Rattle.overriding.specs.Methods.{is_private, methods_in}
use Rattle.signature_typing.specs.Signatures.{Setting, members_from, own_body}
use Rattle.class_typing.specs.Enums.{enum_methods}
use Rattle.class_typing.specs.Programs.{classes, library_count, number, plain_program}
use Rattle.elaborated_laws.specs.Elaborated.{IsElaborated, captured_by, program_of}
use Rattle.elaborated_laws.specs.Premises.{HasSites}
use Rattle.elaborated_laws.specs.Sound.{AreConcrete}
use Rattle.elaborated_laws.proofs.Came.{came}
use Rattle.elaborated_laws.proofs.Classes.{classes-count}
use Rattle.elaborated_laws.proofs.Declared.{InLibrary, in-library}
use Rattle.elaborated_laws.proofs.Guests.{guest-declared, within-sites}
use Rattle.elaborated_laws.proofs.Lists.{in-got}
use Rattle.elaborated_laws.proofs.Methods.{same-methods}
use Rattle.elaborated_laws.proofs.MethodWalk.{true-false}
use Rattle.override_laws.proofs.Lists.{all-passes}
use Rattle.judged_laws.specs.Judged.{IsJudged}
use Rattle.judged_laws.specs.Laws.{MethodsAreConcrete, signed}
use Rattle.judged_laws.proofs.HiddenFields.{methods-kept}
use Rattle.judged_laws.proofs.Modifiers.{none-has, none-refused, not-both}
use Rattle.judged_laws.proofs.Signed.{classes_are_judged}

-- ---- words

abbrev IsWordIn : (ModifierKind → Bool) → ModifierKind → Type 0
IsWordIn test w = test w ≡ true

no-static : (w : ModifierKind) → is_static_word w ≡ true → allows what.Method inside.InterfaceBody w ≡ false
no-static word.Static e = refl
no-static word.Public e = absurd cc
no-static word.Protected e = absurd cc
no-static word.Private e = absurd cc
no-static word.Final e = absurd cc
no-static word.Abstract e = absurd cc
no-static word.Native e = absurd cc
no-static word.Override e = absurd cc

no-private : (w : ModifierKind) → is_private_word w ≡ true → allows what.Method inside.InterfaceBody w ≡ false
no-private word.Private e = refl
no-private word.Public e = absurd cc
no-private word.Protected e = absurd cc
no-private word.Static e = absurd cc
no-private word.Final e = absurd cc
no-private word.Abstract e = absurd cc
no-private word.Native e = absurd cc
no-private word.Override e = absurd cc

-- a word that is one of these alone
static-alone : (w : ModifierKind) → is_static_word w ≡ true → w ≡ word.Static
static-alone word.Static e = refl
static-alone word.Public e = absurd cc
static-alone word.Protected e = absurd cc
static-alone word.Private e = absurd cc
static-alone word.Final e = absurd cc
static-alone word.Abstract e = absurd cc
static-alone word.Native e = absurd cc
static-alone word.Override e = absurd cc

private-alone : (w : ModifierKind) → is_private_word w ≡ true → w ≡ word.Private
private-alone word.Private e = refl
private-alone word.Public e = absurd cc
private-alone word.Protected e = absurd cc
private-alone word.Static e = absurd cc
private-alone word.Final e = absurd cc
private-alone word.Abstract e = absurd cc
private-alone word.Native e = absurd cc
private-alone word.Override e = absurd cc

abstract-alone : (w : ModifierKind) → is_abstract_word w ≡ true → w ≡ word.Abstract
abstract-alone word.Abstract e = refl
abstract-alone word.Public e = absurd cc
abstract-alone word.Protected e = absurd cc
abstract-alone word.Private e = absurd cc
abstract-alone word.Static e = absurd cc
abstract-alone word.Final e = absurd cc
abstract-alone word.Native e = absurd cc
abstract-alone word.Override e = absurd cc

two : (a b w v : ModifierKind) → w ≡ a → v ≡ b → clash what.Method a b ≡ true → clash what.Method w v ≡ true
two a b w v e h k = ap (λ x. clash what.Method x v) e ∙ ap (clash what.Method a) h ∙ k

never-static : (ms : List Modifier) → bad_modifier what.Method inside.ClassBody ms ≡ None → has_abstract ms ≡ true → has_static ms ≡ false
never-static ms e h =
    not-both what.Method inside.ClassBody is_abstract_word is_static_word
    (λ w v p q. two word.Abstract word.Static w v (abstract-alone w p) (static-alone v q) refl)
    (λ w v p q. two word.Static word.Abstract v w (static-alone v q) (abstract-alone w p) refl)
    (λ w p. ap is_static_word (abstract-alone w p)) ms e h

never-private : (ms : List Modifier) → bad_modifier what.Method inside.ClassBody ms ≡ None → has_abstract ms ≡ true → has_private ms ≡ false
never-private ms e h =
    not-both what.Method inside.ClassBody is_abstract_word is_private_word
    (λ w v p q. two word.Abstract word.Private w v (abstract-alone w p) (private-alone v q) refl)
    (λ w v p q. two word.Private word.Abstract v w (private-alone v q) (abstract-alone w p) refl)
    (λ w p. ap is_private_word (abstract-alone w p)) ms e h

private-by : (i : Bool) (ms : List Modifier) → is_private (access_of i ms) ≡ true → has_private ms ≡ true
private-by i ms e = by (has_private ms) (i || has_public ms) (has_protected ms) e
  where
    by : (p q r : Bool) → is_private (if p then access.Private else (if q then access.Public else (if r then access.Protected else access.Package))) ≡ true →
        p ≡ true
    by true q r h = refl
    by false true r h = absurd cc
    by false false true h = absurd cc
    by false false false h = absurd cc

one-of : (a b : Bool) → (a || b) ≡ true → a ≡ false → b ≡ true
one-of true b h k = absurd cc
one-of false b h k = h

concrete-by : (i : Bool) (ms : List Modifier) → bad_modifier what.Method (if i then inside.InterfaceBody else inside.ClassBody) ms ≡ None →
    (has_static ms || is_private (access_of i ms)) ≡ true → (i || has_abstract ms) ≡ false
concrete-by true ms e h =
    let own = none-has what.Method inside.InterfaceBody is_static_word no-static ms e in
    let open-to-all = none-has what.Method inside.InterfaceBody is_private_word no-private ms e in
    absurd (true-false (private-by true ms (one-of (has_static ms) _ h own)) open-to-all)
concrete-by false ms e h =
    bool_cases (λ b. b ≡ false) (has_abstract ms)
    (λ y. absurd (true-false (private-by false ms (one-of (has_static ms) _ h (never-static ms e y))) (never-private ms e y)))
    (λ n. refl)

-- ---- the methods that a class writes

abbrev kind-of : Bool → Declared
kind-of is_constructor = if is_constructor then what.Constructor else what.Method

module _ (s : Setting) (c : ℕ) where
  modified : (ms : Members) (at : ℕ) (x : MethodSite) → members_from s c at ms ≡ gives tt → In (method_sites ms) x →
      bad_modifier (kind-of x.is_constructor) (own_body s c) x.modifiers ≡ None
  modified tree.no_members at x e i = elim i [ ]
  modified (tree.more_members (tree.method mods t id fs ts block span) ms) at _ e first =
      none-refused BadModifier (bad_modifier what.Method (own_body s c) mods) (came _ _ tt (came _ _ tt (came _ _ tt e).is).is).is
  modified (tree.more_members (tree.method mods t id fs ts block span) ms) at x e (further i) =
      modified ms (at + 1) x (came _ _ tt e).rest i
  modified (tree.more_members (tree.constructor mods id fs ts call opening ss closing span) ms) at _ e first =
      none-refused BadModifier (bad_modifier what.Constructor (own_body s c) mods) (came _ _ tt (came _ _ tt (came _ _ tt e).is).is).is
  modified (tree.more_members (tree.constructor mods id fs ts call opening ss closing span) ms) at x e (further i) =
      modified ms (at + 1) x (came _ _ tt e).rest i
  modified (tree.more_members (tree.member_type d) ms) at x e i = modified ms at x (came _ _ tt e).rest i
  modified (tree.more_members (tree.field mods t vs span) ms) at x e i = modified ms at x (came _ _ tt e).rest i
  modified (tree.more_members (tree.initializer word opening ss closing span) ms) at x e i = modified ms at x (came _ _ tt e).rest i

module _ (source : Source) (c : ℕ) where
  abbrev Concrete : DeclaredMethod → Type 0
  Concrete m = (m.flags.is_static || is_private m.flags.access) ≡ true → m.flags.is_abstract ≡ false

  site-concrete : (x : MethodSite) →
      bad_modifier (kind-of x.is_constructor) (own_body (signed source) c) x.modifiers ≡ None → Concrete (declared_method source c x)
  site-concrete x e h = by x.is_constructor refl e
    where
      interface : Bool
      interface = is_interface_sort (site_at source.sites c).sort

      by : (b : Bool) → x.is_constructor ≡ b → bad_modifier (kind-of b) (own_body (signed source) c) x.modifiers ≡ None →
          (not x.is_constructor && (interface || has_abstract x.modifiers)) ≡ false
      by true k g = ap (λ a. not a && (interface || has_abstract x.modifiers)) k
      by false k g = ap (λ a. not a && (interface || has_abstract x.modifiers)) k ∙ concrete-by interface x.modifiers g h

  written-concrete : IsJudged (signed source) c → (at : ℕ) (o : Option MethodSite) (m : DeclaredMethod) →
      slice_get (methods_of source c) at ≡ o → option_map (declared_method source c) o ≡ Some m → Concrete m
  written-concrete judged at None m here e = absurd (none-some m e)
  written-concrete judged at (Some x) m here e =
      subst Concrete (same_Some (declared_method source c x) m e)
      (site-concrete x (modified (signed source) c (members_in (site_at source.sites c).written) 0 x judged.members (in-got (methods_of source c) at x here)))

  enum-concrete : (at : ℕ) (m : DeclaredMethod) → slice_get (enum_methods (number source) c) at ≡ Some m → Concrete m
  enum-concrete zero m e h = sym (ap (λ (x : DeclaredMethod). x.flags.is_abstract) (same_Some _ m e))
  enum-concrete (suc zero) m e h = sym (ap (λ (x : DeclaredMethod). x.flags.is_abstract) (same_Some _ m e))
  enum-concrete (suc (suc zero)) m e h = sym (ap (λ (x : DeclaredMethod). x.flags.is_abstract) (same_Some _ m e))
  enum-concrete (suc (suc (suc zero))) m e h = sym (ap (λ (x : DeclaredMethod). x.flags.is_abstract) (same_Some _ m e))
  enum-concrete (suc (suc (suc (suc zero)))) m e h = sym (ap (λ (x : DeclaredMethod). x.flags.is_abstract) (same_Some _ m e))
  enum-concrete (suc (suc (suc (suc (suc at))))) m e h = absurd (none-some m e)

-- ---- the library's

abbrev row-concrete : Class → Row → Bool
row-concrete c r = not (r.is_static && c.is_interface)

abbrev rows-concrete : List Class → Bool
rows-concrete cs = list_all (λ (c : Class). list_all (row-concrete c) (filter (is_method_of c) rows)) cs

all-concrete : rows-concrete class_rows ≡ true
unfolding rows
all-concrete = refl

row-passes : (row : Class) (c : ℕ) → slice_get class_rows c ≡ Some row → list_all (row-concrete row) (filter (is_method_of row) rows) ≡ true
row-passes row c e =
    all-passes (λ (k : Class). list_all (row-concrete k) (filter (is_method_of k) rows)) class_rows row all-concrete (in-got class_rows c row e)

no-interface-by : (i own : Bool) → not (own && i) ≡ true → (own || false) ≡ true → i ≡ false
no-interface-by i true e h = by i e
  where
    by : (i : Bool) → not i ≡ true → i ≡ false
    by true k = absurd cc
    by false k = refl
no-interface-by i false e h = absurd cc

library-concrete : (source : Source) (c : ℕ) (l : InLibrary source c) (at : ℕ) (o : Option Row) (m : DeclaredMethod) →
    slice_get (filter (is_method_of l.row) rows) at ≡ o → option_map (method_declared (number source) l.row c) o ≡ Some m → Concrete source c m
library-concrete source c l at None m here e = absurd (none-some m e)
library-concrete source c l at (Some r) m here e =
    subst (Concrete source c) (same_Some (method_declared (number source) l.row c r) m e)
    (λ h. no-interface-by l.row.is_interface r.is_static
    (all-passes (row-concrete l.row) (filter (is_method_of l.row) rows) r (row-passes l.row c l.there)
    (in-got (filter (is_method_of l.row) rows) at r here)) h)

-- ---- all classes

module _ (source : Source) (program : CoreProgram) (e : IsElaborated source program) (sites : HasSites source) where
  in-library-concrete : (c at : ℕ) (m : DeclaredMethod) → c < library_count source →
      slice_get (methods_in (slice_get (classes source) c)) at ≡ Some m → Concrete source c m
  in-library-concrete c at m l h =
      let row = in-library source c l in
      let own = filter (is_method_of row.row) rows in
      library-concrete source c row at (slice_get own at) m refl
      (sym (slice_get-map (method_declared (number source) row.row c) own at)
      ∙ sym (ap (λ o. slice_get (methods_in o) at) row.declared) ∙ h)

  guest-concrete : (c at : ℕ) (m : DeclaredMethod) → library_count source ≤ c → c < length (classes source) →
      slice_get (methods_in (slice_get (classes source) c)) at ≡ Some m → Concrete source c m
  unfolding declared_class
  guest-concrete c at m le l h =
      let within = within-sites source c le (subst (λ n. c < n) (classes-count source) l) in
      let are = ap methods_in (guest-declared source c le within) ∙ same-methods source c (declared_class source c) in
      bool_cases (λ b. Concrete source c m) (is_enum_sort (site_at source.sites c).sort)
      (λ y. enum-concrete source c at m
      (sym (ap (λ ms. slice_get ms at) (are ∙ ap (λ b. if b then enum_methods (number source) c else (declared_class source c).methods) y)) ∙ h))
      (λ n. written-concrete source c (classes_are_judged source program e sites c le within) at (slice_get (methods_of source c) at) m refl
      (sym (slice_get-map (declared_method source c) (methods_of source c) at)
      ∙ sym (ap (λ ms. slice_get ms at) (are ∙ ap (λ b. if b then enum_methods (number source) c else (declared_class source c).methods) n)) ∙ h))

  are-concrete : AreConcrete (program_of source e.first)
  unfolding plain_program
  are-concrete c at m h = by (cases_lt c (library_count source)) (cases_lt c (length (classes source)))
    where
      kept : slice_get (methods_in (slice_get (classes source) c)) at ≡ Some m
      kept = sym (ap (λ ms. slice_get ms at) (methods-kept source (captured_by source e.first) (classes source) 0 c)) ∙ h

      by : (c < library_count source ⊎ library_count source ≤ c) → (c < length (classes source) ⊎ length (classes source) ≤ c) → Concrete source c m
      by (inl l) other = in-library-concrete c at m l kept
      by (inr le) (inl l) = guest-concrete c at m le l kept
      by (inr le) (inr past) = absurd (none-some m (sym (ap (λ o. slice_get (methods_in o) at) (slice_get_past (classes source) c past)) ∙ kept))

pub methods_are_concrete : (source : Source) (program : CoreProgram) (e : IsElaborated source program) → MethodsAreConcrete source program e
methods_are_concrete source program e sites = are-concrete source program e sites
