-- Every statement is read where it is spelled, or something longer where the next token goes on with it.
use Rattle.std.proofs.Common.{◌≡◌, ℕ, suc, ◌≤◌, Bool, true, false, List, [], ◌∷◌, None, refl, arith, ◌||◌}
use Rattle.je_base.specs.declared.span.Span.{Span}
use Rattle.je_token.specs.declared.keyword.Keyword.TheVariants as word
use Rattle.je_token.specs.declared.symbol.Symbol.TheVariants as symbol
use Rattle.je_token.specs.declared.token.Token.{Token}
use Rattle.je_token.specs.declared.token.TokenKind.{TokenKind}
use Rattle.je_token.specs.declared.token.TokenKind.TheVariants as kind
use Rattle.je_ast.specs.declared.name.Identifier.{Identifier}
use Rattle.je_ast.specs.Types.{TypeName}
use Rattle.je_ast.specs.Trees.{Expression, Statement, Variables}
use Rattle.je_ast.specs.Trees as tree
use Rattle.je_ast.specs.Height.{statement_height}
use Rattle.je_grammar.specs.Tokens.{it_is, IsSymbol, IsIdentifier, identifier}
use Rattle.je_grammar.specs.Context.{is_step}
use Rattle.je_grammar.specs.Grammar.{Spells, SpellsBlockStatement, is_local, is_statement}
use Rattle.je_grammar.specs.Grammar.{SpellsStatement, is_block, is_empty, is_labelled, is_if_only, is_if_else, is_while, is_do, is_for, is_for_each, is_switch, is_break, is_continue, is_return, is_throw, is_try, is_try_finally, is_expression_statement}
use Rattle.parse_laws.specs.way.Tokens.{with, is_word}
use Rattle.parse_laws.specs.way.Types.{begins_local_at}
use Rattle.parse_laws.specs.way.Below.{Below}
use Rattle.parse_laws.specs.way.Readers.{IsBelow, Reads, itself, GoesOn}
use Rattle.parse_laws.specs.way.Statements.{label_before, labelled_at, expression_statement_at, statement_by, statement_layer}
use Rattle.parse_laws.proofs.Rules.{is_none, none_where}
use Rattle.parse_laws.proofs.Fronts.{front, front_name}
use Rattle.statement_laws.proofs.Stops.{begins_type, begins_expression, first_is, no_front, expression_first}
use Rattle.statement_laws.proofs.Starts.{step_no_type, step_no_label, label_no_type}
use Rattle.statement_laws.proofs.Sound.{FrontLabel, front_label, label_before_sound}
use Rattle.statement_laws.proofs.Blocks.{block_statements_exact}
use Rattle.statement_laws.proofs.Groups.{groups_exact}
use Rattle.statement_laws.proofs.Exact.{condition_exact, inner_block_exact, break_exact, continue_exact, return_exact, throw_exact, expression_statement_exact, switch_exact, labelled_exact, while_exact, do_exact, if_only_exact, if_else_exact}
use Rattle.statement_laws.proofs.Loops.{NoLocal, no_type_here, neither, locals_begin, for_exact, for_each_exact}
use Rattle.statement_laws.proofs.Tries.{try_exact, try_finally_exact}

module _ (names texts : List (List ℕ)) where
  step_no_final : {e : Expression} (ts : List Token) {rest : List Token} → Spells names texts e ts rest → is_word word.Final ts ≡ false
  step_no_final ts d = rw (no_front begins_expression (kind.Keyword word.Final) ts refl (expression_first names texts d)) refl

  label_no_local : {i c : Token} {ts : List Token} → IsIdentifier i → IsSymbol symbol.Colon c → NoLocal (i ∷ c ∷ ts)
  label_no_local i c t k rest d = label_no_type d i c

  identifier_no_final : {i : Token} (ts : List Token) → IsIdentifier i → is_word word.Final (i ∷ ts) ≡ false
  identifier_no_final ts it_is = refl

  step_no_label_before : {e : Expression} {ts rest : List Token} {x : Identifier × List Token} → Spells names texts e ts rest → is_step e ≡ true → ¬ FrontLabel ts x
  step_no_label_before d s (front_label (front_name i) (front k)) = step_no_label names texts d s i k

  unlabelled : {e : Expression} {ts rest : List Token} → Spells names texts e ts rest → is_step e ≡ true → label_before ts ≡ None
  unlabelled {ts = ts} d s = is_none (label_before ts) (none_where (label_before ts) (FrontLabel ts) (label_before_sound ts) (λ x. step_no_label_before d s))

  here : (h : ℕ) (ts : List Token) → is_word word.Final ts ≡ false → first_is begins_type ts ≡ false → (is_word word.Final ts || begins_local_at h ts) ≡ false
  here h ts f e = neither names texts h ts f (no_type_here ts e)

  -- No statement begins with `final`, or with a type before an identifier.
  pub statement_no_local : (h : ℕ) {b : Statement} (ts : List Token) {rest : List Token} → SpellsStatement names texts b ts rest → (is_word word.Final ts || begins_local_at h ts) ≡ false
  statement_no_local h ts (is_block it_is _) = here h ts refl refl
  statement_no_local h ts (is_empty it_is) = here h ts refl refl
  statement_no_local h ts (is_labelled {ts = rest} i k _) = neither names texts h ts (identifier_no_final _ i) (label_no_local i k)
  statement_no_local h ts (is_if_only it_is _ _) = here h ts refl refl
  statement_no_local h ts (is_if_else _ it_is _ _ _ _) = here h ts refl refl
  statement_no_local h ts (is_while it_is _ _) = here h ts refl refl
  statement_no_local h ts (is_do it_is _ _ _ _) = here h ts refl refl
  statement_no_local h ts (is_for it_is _ _ _ _ _ _ _ _) = here h ts refl refl
  statement_no_local h ts (is_for_each it_is _ _ _ _ _ _ _ _) = here h ts refl refl
  statement_no_local h ts (is_switch it_is _ _ _) = here h ts refl refl
  statement_no_local h ts (is_break it_is _ _) = here h ts refl refl
  statement_no_local h ts (is_continue it_is _ _) = here h ts refl refl
  statement_no_local h ts (is_return it_is _ _) = here h ts refl refl
  statement_no_local h ts (is_throw it_is _ _) = here h ts refl refl
  statement_no_local h ts (is_try _ it_is _ _ _) = here h ts refl refl
  statement_no_local h ts (is_try_finally it_is _ _ _ _ _ _) = here h ts refl refl
  statement_no_local h ts (is_expression_statement s d _) = neither names texts h ts (step_no_final ts d) (λ t k rest. step_no_type names texts d s)

  -- A declaration of local variables does.
  pub local_begins : (h : ℕ) {f s : Span} {m : Bool} {t : TypeName} {vs : Variables} {ts rest : List Token} → SpellsBlockStatement names texts (tree.local f m t vs s) ts rest → statement_height (tree.local f m t vs s) ≤ suc h →
      (is_word word.Final ts || begins_local_at h ts) ≡ true
  local_begins h (is_local f d v c) low = locals_begin names texts h f d v (omega arith)
  local_begins h (is_statement d) low = elim d [ ]

  module _ (h : ℕ) (p : Below) (below : IsBelow names texts h p) where
    by_expression : (k : TokenKind) (w : Span) (ts rest : List Token) → begins_expression k ≡ true → statement_by h p k w ts rest ≡ with (label_before ts) (λ x. labelled_at h p x.0 x.1) (expression_statement_at h p ts)
    by_expression (kind.Symbol symbol.OpenBrace) w ts rest e = absurd cc
    by_expression (kind.Symbol symbol.Semicolon) w ts rest e = absurd cc
    by_expression (kind.Keyword word.If) w ts rest e = absurd cc
    by_expression (kind.Keyword word.While) w ts rest e = absurd cc
    by_expression (kind.Keyword word.Do) w ts rest e = absurd cc
    by_expression (kind.Keyword word.For) w ts rest e = absurd cc
    by_expression (kind.Keyword word.Switch) w ts rest e = absurd cc
    by_expression (kind.Keyword word.Break) w ts rest e = absurd cc
    by_expression (kind.Keyword word.Continue) w ts rest e = absurd cc
    by_expression (kind.Keyword word.Return) w ts rest e = absurd cc
    by_expression (kind.Keyword word.Throw) w ts rest e = absurd cc
    by_expression (kind.Keyword word.Try) w ts rest e = absurd cc
    by_expression _ w ts rest e = refl

    layer_by_expression : (ts : List Token) → first_is begins_expression ts ≡ true → label_before ts ≡ None → statement_layer h p ts ≡ expression_statement_at h p ts
    unfolding statement_layer
    layer_by_expression [] e l = absurd cc
    layer_by_expression (t ∷ ts) e l = rw (by_expression t.kind t.span (t ∷ ts) ts e, l) refl

    layer_labelled : {i k : Token} (ts : List Token) → IsIdentifier i → IsSymbol symbol.Colon k → statement_layer h p (i ∷ k ∷ ts) ≡ labelled_at h p (identifier i) ts
    unfolding statement_layer
    layer_labelled ts it_is it_is = refl

    inner : {b : Statement} {ts rest : List Token} → SpellsStatement names texts b ts rest → statement_height b ≤ h → Reads (p.statement ts) b rest (GoesOn b rest)
    inner {b} {ts} {rest} d low = below.statement.exact b ts rest d tt low

    pub statement_exact : {b : Statement} {ts rest : List Token} → SpellsStatement names texts b ts rest → statement_height b ≤ suc h → Reads (statement_layer h p ts) b rest (GoesOn b rest)
    unfolding statement_layer
    statement_exact (is_block {ts = ts} it_is d) low = itself (inner_block_exact names texts h p below ts it_is (block_statements_exact names texts h p below d (omega arith)))
    statement_exact (is_empty it_is) low = itself refl
    statement_exact (is_labelled {ts = ts} i k d) low = rw (layer_labelled ts i k) (labelled_exact names texts h p below _ (inner d (omega arith)))
    statement_exact (is_if_only {ts = ts} it_is c d) low = if_only_exact names texts h p below _ ts (condition_exact names texts h p below c (omega arith)) (inner d (omega arith))
    statement_exact (is_if_else {ts = ts} s it_is c d l e) low = if_else_exact names texts h p below _ ts (condition_exact names texts h p below c (omega arith)) s (inner d (omega arith)) l (inner e (omega arith))
    statement_exact (is_while {ts = ts} it_is c d) low = while_exact names texts h p below _ ts (condition_exact names texts h p below c (omega arith)) (inner d (omega arith))
    statement_exact (is_do it_is d l c k) low = itself (do_exact names texts h p below _ (inner d (omega arith)) l (condition_exact names texts h p below c (omega arith)) k)
    statement_exact (is_for {ts = ts} it_is o i c e d s k b) low = for_exact names texts h p below _ ts o i c (omega arith) e d (omega arith) s k (omega arith) (inner b (omega arith))
    statement_exact (is_for_each {ts = ts} it_is o f t n k e c b) low = for_each_exact names texts h p below _ ts o f t (omega arith) n k e c (omega arith) (inner b (omega arith))
    statement_exact (is_switch {ts = ts} it_is c o g) low = itself (switch_exact names texts h p below _ ts (condition_exact names texts h p below c (omega arith)) o (groups_exact names texts h p below g (omega arith)))
    statement_exact (is_break it_is l c) low = itself (break_exact names texts h p below _ l c)
    statement_exact (is_continue it_is l c) low = itself (continue_exact names texts h p below _ l c)
    statement_exact (is_return it_is e c) low = itself (return_exact names texts h p below _ e c (omega arith))
    statement_exact (is_throw it_is e c) low = itself (throw_exact names texts h p below _ e c (omega arith))
    statement_exact (is_try k it_is o d c) low = try_exact names texts h p below _ k o d (omega arith) c (omega arith)
    statement_exact (is_try_finally it_is o d c f k l) low = itself (try_finally_exact names texts h p below _ o d (omega arith) c (omega arith) f k l (omega arith))
    statement_exact {ts = ts} (is_expression_statement s d c) low =
        rw (layer_by_expression ts (expression_first names texts d) (unlabelled d s)) (itself (expression_statement_exact names texts h p below s d c (omega arith)))
