-- Units are read where they are spelled.
use Rattle.std.proofs.Common.{◌≡◌, ℕ, zero, suc, ◌≤◌, max, Bool, true, false, List, [], ◌∷◌, ◌++◌, length, Some, None, IfSome, refl, sym, ap, ◌∙◌, subst, arith, append_assoc}
use Rattle.std.proofs.lemmas.List.{append-nil}
use Rattle.je_base.specs.declared.span.Span.{Span}
use Rattle.je_token.specs.declared.keyword.Keyword.TheVariants as word
use Rattle.je_token.specs.declared.symbol.Symbol.TheVariants as symbol
use Rattle.je_token.specs.declared.token.Token.{Token}
use Rattle.je_token.specs.declared.token.TokenKind.{TokenKind}
use Rattle.je_token.specs.declared.token.TokenKind.TheVariants as kind
use Rattle.je_ast.specs.declared.decl.Modifier.{Modifier}
use Rattle.je_ast.specs.declared.decl.ModifierKind.{ModifierKind}
use Rattle.je_ast.specs.declared.decl.ModifierKind.TheVariants as modifier
use Rattle.je_ast.specs.Types.{QualifiedName}
use Rattle.je_ast.specs.Trees.{Declaration, CompilationUnit}
use Rattle.je_ast.specs.Height.{declaration_height, unit_height}
use Rattle.je_grammar.specs.Tokens.{Is, it_is, IsSymbol}
use Rattle.je_grammar.specs.Types.{SpellsModifiers, no_modifiers, more_modifiers, override_modifier, word_modifier, modifier_word}
use Rattle.je_grammar.specs.Grammar.{SpellsDeclaration, is_class, is_interface, is_enum, SpellsClass, class_declaration, SpellsInterface, interface_declaration, SpellsEnum, enum_declaration, SpellsDeclarations, no_declarations, semicolon_between, more_declarations, SpellsUnit, is_unit}
use Rattle.parse_laws.specs.way.Tokens.{same, behind, behind_word}
use Rattle.parse_laws.specs.way.Readers.{IsRead, itself, longer, any}
use Rattle.parse_laws.specs.way.Knot.{declaration_at, import_at, imports_at, is_end, declarations_at, unit_at}
use Rattle.parse_laws.proofs.Rules.{bind, either, choose, weaken, unless, same_some}
use Rattle.parse_laws.proofs.Tables.{same_true}
use Rattle.parse_laws.proofs.Fronts.{Front, front, behind_front, is_of}
use Rattle.je_grammar.proofs.AtLeastOne.{declarations_spell_some}
use Rattle.je_grammar.proofs.Sizes.{size-SpellsImports}
use Rattle.statement_laws.proofs.Stops.{first_is, first_kind, no_front}
use Rattle.knot_laws.proofs.Knots.{declaration_is_read}
use Rattle.unit_laws.specs.Laws.{IsUnitRead}
use Rattle.unit_laws.proofs.Imports.{imports_sound, imports_exact}

-- ---- what a declaration begins with

abbrev pub begins_declaration : TokenKind → Bool
begins_declaration (kind.Keyword word.Import) = false
begins_declaration (kind.Keyword word.This) = false
begins_declaration (kind.Keyword word.Super) = false
begins_declaration (kind.Symbol symbol.Semicolon) = false
begins_declaration (kind.Symbol symbol.CloseBrace) = false
begins_declaration kind.End = false
begins_declaration _ = true

modifier_begins : (m : ModifierKind) → IfSome (modifier_word m) (λ w. begins_declaration (kind.Keyword w) ≡ true)
modifier_begins modifier.Override = tt
modifier_begins modifier.Public = refl
modifier_begins modifier.Protected = refl
modifier_begins modifier.Private = refl
modifier_begins modifier.Static = refl
modifier_begins modifier.Final = refl
modifier_begins modifier.Abstract = refl
modifier_begins modifier.Native = refl

pub modifiers_begin : (names : List (List ℕ)) {ms : List Modifier} {ts mid : List Token} → SpellsModifiers names ms ts mid → first_is begins_declaration mid ≡ true → first_is begins_declaration ts ≡ true
modifiers_begin names no_modifiers e = e
modifiers_begin names (more_modifiers (override_modifier it_is _ _) _) e = refl
modifiers_begin names (more_modifiers {mid = mid} (word_modifier {m} q w) _) e = rw (first_kind begins_declaration mid w) (subst (λ o. IfSome o (λ k. begins_declaration (kind.Keyword k) ≡ true)) q (modifier_begins m))

is_the_end : (ts : List Token) → is_end ts ≡ true → (t : Token) × (ts ≡ t ∷ []) × Is kind.End t
is_the_end [] e = absurd cc
is_the_end (t ∷ []) e = (t, refl, is_of kind.End t (same_true t.kind kind.End e))
is_the_end (t ∷ u ∷ ts) e = absurd cc

no_end_where : (ts : List Token) → first_is begins_declaration ts ≡ true → is_end ts ≡ false
no_end_where [] e = absurd cc
no_end_where (t ∷ []) e = unless (same t.kind kind.End) (λ q. let a = first_kind begins_declaration [] (is_of kind.End t (same_true t.kind kind.End q)) in cc)
no_end_where (t ∷ u ∷ ts) e = refl

end_alone : {t : Token} → Is kind.End t → is_end (t ∷ []) ≡ true
end_alone it_is = refl

semicolon_no_end : {t : Token} (ts : List Token) → IsSymbol symbol.Semicolon t → is_end (t ∷ ts) ≡ false
semicolon_no_end [] it_is = refl
semicolon_no_end (u ∷ ts) it_is = refl

module _ (names texts : List (List ℕ)) where
  class_begins : {ms : List Modifier} {s : Span} {d : Declaration} {ts rest : List Token} → SpellsClass names texts ms s d ts rest → first_is begins_declaration ts ≡ true
  class_begins (class_declaration it_is _ _ _ _ _) = refl

  interface_begins : {ms : List Modifier} {s : Span} {d : Declaration} {ts rest : List Token} → SpellsInterface names texts ms s d ts rest → first_is begins_declaration ts ≡ true
  interface_begins (interface_declaration it_is _ _ _ _) = refl

  enum_begins : {ms : List Modifier} {s : Span} {d : Declaration} {ts rest : List Token} → SpellsEnum ms s d ts rest → first_is begins_declaration ts ≡ true
  enum_begins (enum_declaration it_is _ _ _ _ _ _) = refl

  pub declaration_begins : {d : Declaration} {ts rest : List Token} → SpellsDeclaration names texts d ts rest → first_is begins_declaration ts ≡ true
  declaration_begins (is_class m c) = modifiers_begin names m (class_begins c)
  declaration_begins (is_interface m c) = modifiers_begin names m (interface_begins c)
  declaration_begins (is_enum m c) = modifiers_begin names m (enum_begins c)

  pub no_import_word : (ts : List Token) → behind_word word.Import ts ≡ None → import_at names texts ts ≡ None
  unfolding import_at
  no_import_word ts e = rw e refl

  pub semicolon_no_import : {t : Token} (ts : List Token) → IsSymbol symbol.Semicolon t → behind_word word.Import (t ∷ ts) ≡ None
  semicolon_no_import ts it_is = refl

  end_no_import : {t : Token} (ts : List Token) → Is kind.End t → behind_word word.Import (t ∷ ts) ≡ None
  end_no_import ts it_is = refl

  no_import_first : {ds : List Declaration} {t : Token} (ts : List Token) → SpellsDeclarations names texts ds ts (t ∷ []) → Is kind.End t → import_at names texts ts ≡ None
  no_import_first ts no_declarations i = no_import_word ts (end_no_import [] i)
  no_import_first ts (semicolon_between {ts = rest} k d) i = no_import_word ts (semicolon_no_import rest k)
  no_import_first ts (more_declarations d l) i = no_import_word ts (no_front begins_declaration (kind.Keyword word.Import) ts refl (declaration_begins d))

  module _ (most : ℕ) where
    -- ---- declarations

    abbrev Good : List Token → Declaration × List Token → Type 0
    Good = IsRead (SpellsDeclaration names texts) declaration_height any most

    -- declarations behind others, up to the file's end
    record Declarations (before : List Declaration) (ts : List Token) (y : List Declaration) : Type 0 where
      items : List Declaration
      end : Token
      whole : y ≡ before ++ items
      spelled : SpellsDeclarations names texts items ts (end ∷ [])
      ends : Is kind.End end
      within : unit_height items ≤ most

    ended : (before : List Declaration) (ts : List Token) → (t : Token) × (ts ≡ t ∷ []) × Is kind.End t → Declarations before ts before
    ended before ts g = record {
      items = [];
      end = g.0;
      whole = sym (append-nil before);
      spelled = subst (λ (xs : List Token). SpellsDeclarations names texts [] ts xs) g.1 no_declarations;
      ends = g.2;
      within = omega arith;
    }

    lone : {ds : List Declaration} {ts mid rest : List Token} → Front (kind.Symbol symbol.Semicolon) ts mid → SpellsDeclarations names texts ds mid rest → SpellsDeclarations names texts ds ts rest
    lone (front k) d = semicolon_between k d

    declarations_sound : (n : ℕ) (before : List Declaration) (ts : List Token) → IfSome (declarations_at names texts n most before ts) (Declarations before ts)
    unfolding declarations_at
    declarations_sound zero before ts = tt
    declarations_sound (suc n) before ts = choose (is_end ts) _ _ (λ o. IfSome o (Declarations before ts))
        (λ e. ended before ts (is_the_end ts e))
        (λ _. either (behind symbol.Semicolon ts) _ _ (Front (kind.Symbol symbol.Semicolon) ts) (λ o. IfSome o (Declarations before ts)) (behind_front (kind.Symbol symbol.Semicolon) ts)
        (λ mid k. weaken _ (Declarations before mid) (Declarations before ts) (declarations_sound n before mid)
        (λ y v. record { items = v.items; end = v.end; whole = v.whole; spelled = lone k v.spelled; ends = v.ends; within = v.within }))
        (bind (declaration_at names texts most ts) _ (Good ts) (Declarations before ts) ((declaration_is_read names texts most).sound ts)
        (λ d g. weaken _ (Declarations (before ++ d.0 ∷ []) d.1) (Declarations before ts) (declarations_sound n (before ++ d.0 ∷ []) d.1)
        (λ y v. record {
          items = d.0 ∷ v.items;
          end = v.end;
          whole = v.whole ∙ append_assoc before (d.0 ∷ []) v.items;
          spelled = more_declarations g.spelled v.spelled;
          ends = v.ends;
          within = let a = g.within in let b = v.within in omega arith;
        }))))

    declaration_whole : {d : Declaration} {ts rest : List Token} → SpellsDeclaration names texts d ts rest → declaration_height d ≤ most → declaration_at names texts most ts ≡ Some (d, rest)
    declaration_whole {d} {ts} {rest} s low = elim ((declaration_is_read names texts most).exact d ts rest s tt low) [
      | itself q ↦ q
      | longer q lt goes ↦ absurd goes
    ]

    end_step : (n : ℕ) (before : List Declaration) (ts : List Token) → is_end ts ≡ true → declarations_at names texts (suc n) most before ts ≡ Some before
    unfolding declarations_at
    end_step n before ts e = rw e refl

    lone_step : (n : ℕ) (before : List Declaration) {t : Token} (ts : List Token) → IsSymbol symbol.Semicolon t → is_end (t ∷ ts) ≡ false → declarations_at names texts (suc n) most before (t ∷ ts) ≡ declarations_at names texts n most before ts
    unfolding declarations_at
    lone_step n before ts it_is e = rw e refl

    declaration_step : (n : ℕ) (before : List Declaration) {d : Declaration} (ts mid : List Token) → is_end ts ≡ false → behind symbol.Semicolon ts ≡ None → declaration_at names texts most ts ≡ Some (d, mid) →
        declarations_at names texts (suc n) most before ts ≡ declarations_at names texts n most (before ++ d ∷ []) mid
    unfolding declarations_at
    declaration_step n before ts mid e f g = rw (e, f, g) refl

    declarations_exact : (n : ℕ) (before : List Declaration) {ds : List Declaration} {t : Token} {ts : List Token} → SpellsDeclarations names texts ds ts (t ∷ []) → Is kind.End t → unit_height ds ≤ most → length ts ≤ n →
        declarations_at names texts n most before ts ≡ Some (before ++ ds)
    declarations_exact zero before no_declarations i low le = absurd (omega arith)
    declarations_exact zero before (semicolon_between k d) i low le = absurd (omega arith)
    declarations_exact zero before (more_declarations d l) i low le = absurd (let a = declarations_spell_some names texts _ _ _ d in omega arith)
    declarations_exact (suc n) before {t = t} no_declarations i low le = end_step n before (t ∷ []) (end_alone i) ∙ ap Some (sym (append-nil before))
    declarations_exact (suc n) before (semicolon_between {ts = ts} k d) i low le = lone_step n before ts k (semicolon_no_end ts k) ∙ declarations_exact n before d i low (omega arith)
    declarations_exact (suc n) before {ts = ts} (more_declarations {d = d} {ds} {mid = mid} s l) i low le =
        let a = declaration_begins s in
        declaration_step n before ts mid (no_end_where ts a) (no_front begins_declaration (kind.Symbol symbol.Semicolon) ts refl a) (declaration_whole s (omega arith))
        ∙ declarations_exact n (before ++ d ∷ []) l i (omega arith) (let b = declarations_spell_some names texts _ _ _ s in omega arith)
        ∙ ap Some (append_assoc before (d ∷ []) ds)

    -- ---- units

    pub unit_sound : (ts : List Token) → IfSome (unit_at names texts most ts) (IsUnitRead names texts most ts)
    unfolding unit_at
    unit_sound ts = let is = imports_at names texts (length ts) [] ts in
        let v = imports_sound names texts (length ts) [] ts in
        bind (declarations_at names texts (length ts) most [] is.1) _ (Declarations [] is.1) (IsUnitRead names texts most ts) (declarations_sound (length ts) [] is.1)
        (λ ds g. record { spelled = rw (v.whole, g.whole) (is_unit v.spelled g.spelled g.ends); within = rw g.whole g.within })

    unit_by : {is : List QualifiedName} {ds : List Declaration} (ts mid : List Token) → imports_at names texts (length ts) [] ts ≡ (is, mid) → declarations_at names texts (length ts) most [] mid ≡ Some ds → unit_at names texts most ts ≡ Some (record { imports = is; declarations = ds })
    unfolding unit_at
    unit_by ts mid e f = rw (e, f) refl

    pub unit_exact : {u : CompilationUnit} {ts : List Token} → SpellsUnit names texts u ts → unit_height u.declarations ≤ most → unit_at names texts most ts ≡ Some u
    unit_exact {ts = ts} (is_unit {mid = mid} i d t) low = unit_by ts mid (imports_exact names texts (length ts) [] i (no_import_first mid d t) (omega arith)) (declarations_exact (length ts) [] d t low (let a = size-SpellsImports names texts i in omega arith))

pub unit_once : (names texts : List (List ℕ)) (u v : CompilationUnit) (ts : List Token) → SpellsUnit names texts u ts → SpellsUnit names texts v ts → u ≡ v
unit_once names texts u v ts d e =
    let most = max (unit_height u.declarations) (unit_height v.declarations) in
    same_some (sym (unit_exact names texts most d (omega arith)) ∙ unit_exact names texts most e (omega arith))
