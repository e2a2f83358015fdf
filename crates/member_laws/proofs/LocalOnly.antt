-- Where a local class begins, nothing else is a statement of a block.
use Rattle.std.proofs.Common.{◌≡◌, ℕ, Bool, true, false, ◌&&◌, List, ◌∷◌, length, Some, refl}
use Rattle.je_base.specs.declared.span.Span.{Span}
use Rattle.je_token.specs.declared.keyword.Keyword.{Keyword}
use Rattle.je_token.specs.declared.keyword.Keyword.TheVariants as word
use Rattle.je_token.specs.declared.token.Token.{Token}
use Rattle.je_token.specs.declared.token.TokenKind.TheVariants as kind
use Rattle.je_ast.specs.declared.ty_name.Primitive.TheVariants as prim
use Rattle.je_ast.specs.declared.decl.Modifier.{Modifier}
use Rattle.je_ast.specs.declared.decl.ModifierKind.{ModifierKind}
use Rattle.je_ast.specs.declared.decl.ModifierKind.TheVariants as modifier
use Rattle.je_ast.specs.Types.{TypeName}
use Rattle.je_ast.specs.Trees.{Expression, Statement, Declaration}
use Rattle.je_ast.specs.Trees as tree
use Rattle.je_grammar.specs.Tokens.{it_is, IsWord}
use Rattle.je_grammar.specs.Context.{is_final_or_abstract, are_local}
use Rattle.je_grammar.specs.Types.{modifier_word, SpellsModifiers, no_modifiers, more_modifiers, override_modifier, word_modifier, SpellsFinal, not_final, is_final, SpellsTypeName}
use Rattle.je_grammar.specs.Grammar.{Spells}
use Rattle.je_grammar.specs.Grammar.{SpellsStatement, is_block, is_empty, is_labelled, is_if_only, is_if_else, is_while, is_do, is_for, is_for_each, is_switch, is_break, is_continue, is_return, is_throw, is_try, is_try_finally, is_expression_statement, SpellsBlockStatement, is_local, is_local_class, is_statement}
use Rattle.je_grammar.proofs.Beginnings.{differs, begins_item}
use Rattle.parse_laws.specs.way.Members.{begins_local_class_at}
use Rattle.parse_laws.proofs.Fronts.{Front, front}
use Rattle.expression_laws.proofs.Begins.{expression_begins}
use Rattle.type_laws.proofs.Types.{TypeFront, primitive_front, name_front, type_begins}
use Rattle.member_laws.proofs.LocalClasses.{IsLocal, word_of, local_sound}

-- the words that a local class begins with
data LocalFront : List Token → Type 0 where
  final_front : {w : Token} {rest : List Token} → IsWord word.Final w → LocalFront (w ∷ rest)
  abstract_front : {w : Token} {rest : List Token} → IsWord word.Abstract w → LocalFront (w ∷ rest)
  class_front : {w : Token} {rest : List Token} → IsWord word.Class w → LocalFront (w ∷ rest)

class_first : {ts rest : List Token} → Front (kind.Keyword word.Class) ts rest → LocalFront ts
class_first (front w) = class_front w

no_type : {ts : List Token} → LocalFront ts → ¬ TypeFront ts
no_type (final_front it_is) (primitive_front prim.Boolean i) = elim i [ ]
no_type (final_front it_is) (primitive_front prim.Byte i) = elim i [ ]
no_type (final_front it_is) (primitive_front prim.Short i) = elim i [ ]
no_type (final_front it_is) (primitive_front prim.Char i) = elim i [ ]
no_type (final_front it_is) (primitive_front prim.Int i) = elim i [ ]
no_type (final_front it_is) (primitive_front prim.Long i) = elim i [ ]
no_type (final_front it_is) (name_front i) = elim i [ ]
no_type (abstract_front it_is) (primitive_front prim.Boolean i) = elim i [ ]
no_type (abstract_front it_is) (primitive_front prim.Byte i) = elim i [ ]
no_type (abstract_front it_is) (primitive_front prim.Short i) = elim i [ ]
no_type (abstract_front it_is) (primitive_front prim.Char i) = elim i [ ]
no_type (abstract_front it_is) (primitive_front prim.Int i) = elim i [ ]
no_type (abstract_front it_is) (primitive_front prim.Long i) = elim i [ ]
no_type (abstract_front it_is) (name_front i) = elim i [ ]
no_type (class_front it_is) (primitive_front prim.Boolean i) = elim i [ ]
no_type (class_front it_is) (primitive_front prim.Byte i) = elim i [ ]
no_type (class_front it_is) (primitive_front prim.Short i) = elim i [ ]
no_type (class_front it_is) (primitive_front prim.Char i) = elim i [ ]
no_type (class_front it_is) (primitive_front prim.Int i) = elim i [ ]
no_type (class_front it_is) (primitive_front prim.Long i) = elim i [ ]
no_type (class_front it_is) (name_front i) = elim i [ ]

and_second : (a b : Bool) → (a && b) ≡ true → b ≡ true
and_second true b e = e
and_second false b e = absurd cc

module _ (names : List (List ℕ)) where
  word_first : (m : ModifierKind) {k : Keyword} {w : Token} (s : Span) (ms : List Modifier) (rest : List Token) → modifier_word m ≡ Some k → IsWord k w → are_local (record { kind = m; span = s } ∷ ms) ≡ true → LocalFront (w ∷ rest)
  word_first modifier.Final s ms rest e i l = final_front (word_of e i)
  word_first modifier.Abstract s ms rest e i l = abstract_front (word_of e i)
  word_first modifier.Override s ms rest e i l = absurd cc
  word_first modifier.Public s ms rest e i l = absurd cc
  word_first modifier.Protected s ms rest e i l = absurd cc
  word_first modifier.Private s ms rest e i l = absurd cc
  word_first modifier.Static s ms rest e i l = absurd cc
  word_first modifier.Native s ms rest e i l = absurd cc

  first_of : {ms : List Modifier} {ts mid rest : List Token} → SpellsModifiers names ms ts mid → are_local ms ≡ true → Front (kind.Keyword word.Class) mid rest → LocalFront ts
  first_of no_modifiers l c = class_first c
  first_of (more_modifiers (override_modifier a t o) ms) l c = absurd cc
  first_of (more_modifiers {ms = those} (word_modifier {m} {w = t} {rest = ts} e w) ms) l c = word_first m t.span those ts e w l

  behind_final : {w : Token} {ms : List Modifier} {ts mid rest : List Token} → IsWord word.Final w → SpellsModifiers names ms (w ∷ ts) mid → are_local ms ≡ true → Front (kind.Keyword word.Class) mid rest → LocalFront ts
  behind_final it_is no_modifiers l (front i) = elim i [ ]
  behind_final it_is (more_modifiers (override_modifier i t o) ms) l c = elim i [ ]
  behind_final w (more_modifiers {m} {ms = those} (word_modifier e i) ms) l c = first_of ms (and_second (is_final_or_abstract m.kind) (are_local those) l) c

  no_local : {f : Bool} {t : TypeName} {ts mid rest : List Token} → SpellsFinal f ts mid → SpellsTypeName t mid rest → ¬ IsLocal names ts
  no_local not_final t l = no_type (first_of l.spelled l.local l.class) (type_begins t)
  no_local (is_final w) t l = no_type (behind_final w l.spelled l.local l.class) (type_begins t)

module _ (names texts : List (List ℕ)) where
  no_statement_by : {k : Keyword} {b : Statement} {w : Token} {ts rest : List Token} → begins_item k ≡ false → ((e : Expression) (rest : List Token) → ¬ Spells names texts e (w ∷ ts) rest) → IsWord k w →
      ¬ SpellsStatement names texts b (w ∷ ts) rest
  no_statement_by item n it_is (is_block i _) = elim i [ ]
  no_statement_by item n it_is (is_empty i) = elim i [ ]
  no_statement_by item n it_is (is_labelled i _ _) = elim i [ ]
  no_statement_by item n w (is_if_only i _ _) = differs begins_item refl item w i
  no_statement_by item n w (is_if_else _ i _ _ _ _) = differs begins_item refl item w i
  no_statement_by item n w (is_while i _ _) = differs begins_item refl item w i
  no_statement_by item n w (is_do i _ _ _ _) = differs begins_item refl item w i
  no_statement_by item n w (is_for i _ _ _ _ _ _ _ _) = differs begins_item refl item w i
  no_statement_by item n w (is_for_each i _ _ _ _ _ _ _ _) = differs begins_item refl item w i
  no_statement_by item n w (is_switch i _ _ _) = differs begins_item refl item w i
  no_statement_by item n w (is_break i _ _) = differs begins_item refl item w i
  no_statement_by item n w (is_continue i _ _) = differs begins_item refl item w i
  no_statement_by item n w (is_return i _ _) = differs begins_item refl item w i
  no_statement_by item n w (is_throw i _ _) = differs begins_item refl item w i
  no_statement_by item n w (is_try _ i _ _ _) = differs begins_item refl item w i
  no_statement_by item n w (is_try_finally i _ _ _ _ _ _) = differs begins_item refl item w i
  no_statement_by item n w (is_expression_statement {e = e} {c = c} {rest = rest} _ d _) = n e (c ∷ rest) d

  no_expression : {e : Expression} {ts rest : List Token} → LocalFront ts → ¬ Spells names texts e ts rest
  no_expression (final_front it_is) d = let b = expression_begins names texts d in cc
  no_expression (abstract_front it_is) d = let b = expression_begins names texts d in cc
  no_expression (class_front it_is) d = let b = expression_begins names texts d in cc

  no_statement : {b : Statement} {ts rest : List Token} → LocalFront ts → ¬ SpellsStatement names texts b ts rest
  no_statement (final_front w) s = no_statement_by refl (λ e rest d. no_expression (final_front w) d) w s
  no_statement (abstract_front w) s = no_statement_by refl (λ e rest d. no_expression (abstract_front w) d) w s
  no_statement (class_front w) s = no_statement_by refl (λ e rest d. no_expression (class_front w) d) w s

  pub only_local_class : {b : Statement} (ts : List Token) {rest : List Token} → SpellsBlockStatement names texts b ts rest → begins_local_class_at (length ts) ts ≡ true → (d : Declaration) × (b ≡ tree.local_class d)
  only_local_class ts (is_local_class {d = d} l ms c) e = (d, refl)
  only_local_class ts (is_local f t vs c) e = absurd (no_local names f t (local_sound names (length ts) ts e))
  only_local_class ts (is_statement s) e = let l = local_sound names (length ts) ts e in absurd (no_statement (first_of names l.spelled l.local l.class) s)
