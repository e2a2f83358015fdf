-- A unit is given exactly where one spells the file's tokens.
use Rattle.std.proofs.Common.{◌≡◌, ℕ, ◌-◌, ◌≤◌, ◌*◌, List, length, take, drop, Option, Some, None, IfSome, refl, sym, ◌∙◌}
use Rattle.std.proofs.lemmas.List.{take_rest}
use Rattle.je_token.specs.declared.token.Token.{Token}
use Rattle.je_ast.specs.declared.decl.Unit as node
use Rattle.je_ast.specs.View.{unit_view}
use Rattle.je_ast.specs.Trees.{Declaration, CompilationUnit}
use Rattle.je_ast.specs.Height.{declaration_height, unit_height}
use Rattle.je_ast.specs.Size.{unit_size}
use Rattle.je_grammar.specs.Grammar.{SpellsDeclaration, SpellsUnit}
use Rattle.je_grammar.specs.Longest.{IsLongest}
use Rattle.je_grammar.proofs.AtLeastOne.{size_within}
use Rattle.parse_laws.specs.way.Tokens.{Read}
use Rattle.parse_laws.specs.way.Knot.{declaration_at, unit_at}
use Rattle.parse_decl.specs.way.Views.{seen_unit}
use Rattle.knot_laws.proofs.Longest.{declarations_longest}
use Rattle.unit_laws.specs.Laws.{IsUnitRead}
use Rattle.unit_laws.proofs.Files.{unit_sound, unit_exact}

-- what was read, without where it lies in memory
pub unit_some : (o : Option node.Unit) (u : node.Unit) {r : Option CompilationUnit} → o ≡ Some u → seen_unit o ≡ r → Some (unit_view u) ≡ r
unit_some o u p e = rw p at e

-- a slice from a place on
pub slice_tail : (xs ys : List Token) (from : ℕ) → xs ≡ ys → take (length xs - from) (drop from xs) ≡ drop from ys
slice_tail xs ys from e = rw e (take_rest ys from)

module _ (names texts : List (List ℕ)) (list : List Token) where
  pub unit_given : (u : CompilationUnit) → Some u ≡ unit_at names texts 300 list →
      SpellsUnit names texts u list × (unit_height u.declarations ≤ 300) × (unit_size u.declarations ≤ 2 * length list)
  unit_given u e =
      let s : IfSome (Some u) (IsUnitRead names texts 300 list) = rw (sym e) at (unit_sound names texts 300 list) in
      (s.spelled, s.within, size_within names texts u list s.spelled)

  pub no_unit : None ≡ unit_at names texts 300 list → (u : CompilationUnit) → SpellsUnit names texts u list → ¬ (unit_height u.declarations ≤ 300)
  no_unit e u d low = let a = e ∙ unit_exact names texts 300 d low in cc

  -- ---- what `decl` answers, as it is read

  pub declaration_read : (d : Declaration) (ts rest : List Token) → IsLongest (SpellsDeclaration names texts) declaration_height 300 d ts rest → declaration_at names texts 300 ts ≡ Some (d, rest)
  declaration_read d ts rest l = (declarations_longest names texts 300).longest d ts rest l

  none_where : (ts : List Token) (o : Read Declaration) → declaration_at names texts 300 ts ≡ o → ((d : Declaration) (rest : List Token) → SpellsDeclaration names texts d ts rest → ¬ (declaration_height d ≤ 300)) → o ≡ None
  none_where ts None e none = refl
  none_where ts (Some x) e none =
      let l : IfSome (Some x) (λ y. IsLongest (SpellsDeclaration names texts) declaration_height 300 y.0 ts y.1) = rw e at ((declarations_longest names texts 300).found ts) in
      absurd (none x.0 x.1 l.spelled l.within)

  pub declaration_unread : (ts : List Token) → ((d : Declaration) (rest : List Token) → SpellsDeclaration names texts d ts rest → ¬ (declaration_height d ≤ 300)) → declaration_at names texts 300 ts ≡ None
  declaration_unread ts none = none_where ts (declaration_at names texts 300 ts) refl none
