-- Blocks, variables and declarations of local variables are read where they are spelled.
use Rattle.std.proofs.Common.{◌≡◌, ℕ, zero, suc, ◌<◌, ◌≤◌, Bool, false, List, [], ◌∷◌, ◌++◌, length, Some, None, refl, ap, ◌∙◌, arith, append_assoc}
use Rattle.je_base.specs.declared.span.Span.{Span}
use Rattle.je_token.specs.declared.keyword.Keyword.TheVariants as word
use Rattle.je_token.specs.declared.symbol.Symbol.TheVariants as symbol
use Rattle.je_token.specs.declared.token.Token.{Token}
use Rattle.je_token.specs.declared.token.TokenKind.TheVariants as kind
use Rattle.je_ast.specs.Types.{TypeName, type_height}
use Rattle.je_ast.specs.Trees.{Expression, MaybeExpression, Statement, Statements, Variables}
use Rattle.je_ast.specs.Trees as tree
use Rattle.je_ast.specs.Height.{height, height_if, statement_height, statements_height, variables_height}
use Rattle.je_ast.specs.Spans.{join}
use Rattle.je_grammar.specs.Tokens.{it_is, IsSymbol, IsIdentifier, identifier, first_span}
use Rattle.je_grammar.specs.Types.{SpellsDims, SpellsFinal, SpellsTypeName}
use Rattle.je_grammar.specs.Grammar.{SpellsInit, SpellsMaybeInit, without_init, with_init, SpellsVariables, last_variable, more_variables, SpellsBlockStatement, is_local, is_statement, SpellsStatements, last_statement, more_statements, SpellsBlock, empty_block, full_block}
use Rattle.parse_laws.specs.way.Tokens.{behind, is_word}
use Rattle.parse_laws.specs.way.Types.{final_at}
use Rattle.parse_laws.specs.way.Below.{Below, BlockTree}
use Rattle.parse_laws.specs.way.Lists.{statements, VariableTree, variables}
use Rattle.parse_laws.specs.way.Readers.{IsBelow, itself, longer, reach, continues, SpellsBlockTree, is_block_tree, block_tree_height}
use Rattle.parse_laws.specs.way.Statements.{variable_at, more_variables_at, variables_at, more_statements_at, block_statements_at, block_layer, local_at}
use Rattle.je_grammar.proofs.AtLeastOne.{statements_spell_some}
use Rattle.je_grammar.proofs.Sizes.{size-SpellsDims, size-SpellsMaybeInit}
use Rattle.type_laws.specs.Laws.{types_on}
use Rattle.type_laws.proofs.Names.{dims_complete}
use Rattle.type_laws.proofs.Heads.{final_exact}
use Rattle.type_laws.proofs.Public.{types_complete_law}
use Rattle.statement_laws.proofs.Stops.{begins_type, begins_item, no_front, stops, type_first, item_first, items_first}

abbrev pub items_of : Statements → List Statement
items_of tree.no_statements = []
items_of (tree.more_statements b bs) = b ∷ items_of bs

pub same_items : (bs : Statements) → statements (items_of bs) ≡ bs
same_items tree.no_statements = refl
same_items (tree.more_statements b bs) = ap (tree.more_statements b) (same_items bs)

abbrev pub variables_of : Variables → List VariableTree
variables_of tree.no_variables = []
variables_of (tree.more_variables n d e vs) = record { name = n; dims = d; init = e } ∷ variables_of vs

pub same_variables : (vs : Variables) → variables (variables_of vs) ≡ vs
same_variables tree.no_variables = refl
same_variables (tree.more_variables n d e vs) = ap (tree.more_variables n d e) (same_variables vs)

-- what follows a variable
pub data Ends : List Token → Type 0 where
  semicolon_ends : {c : Token} {rest : List Token} → IsSymbol symbol.Semicolon c → Ends (c ∷ rest)
  comma_ends : {c : Token} {rest : List Token} → IsSymbol symbol.Comma c → Ends (c ∷ rest)

ends_stop : {rest : List Token} → Ends rest → reach rest ≡ 0
ends_stop (semicolon_ends it_is) = refl
ends_stop (comma_ends it_is) = refl

brace_stops : {c : Token} (rest : List Token) → IsSymbol symbol.CloseBrace c → continues (c ∷ rest) ≡ false
brace_stops rest it_is = refl

module _ (names texts : List (List ℕ)) where
  pub no_final : {t : TypeName} (ts : List Token) {rest : List Token} → SpellsTypeName t ts rest → is_word word.Final ts ≡ false
  no_final ts d = rw (no_front begins_type (kind.Keyword word.Final) ts refl (type_first d)) refl

  pub variables_stop : {vs : Variables} {ts rest : List Token} → SpellsVariables names texts vs ts rest → types_on ts ≡ false
  variables_stop (last_variable it_is d i) = refl
  variables_stop (more_variables it_is d i k l) = refl

  pub no_brace : {b : Statement} (ts : List Token) {rest : List Token} → SpellsBlockStatement names texts b ts rest → behind symbol.CloseBrace ts ≡ None
  no_brace ts d = no_front begins_item (kind.Symbol symbol.CloseBrace) ts refl (item_first names texts d)

  module _ (h : ℕ) (p : Below) (below : IsBelow names texts h p) where
    -- ---- variables

    init_whole : {e : Expression} {ts rest : List Token} → SpellsInit names texts e ts rest → height e ≤ h → reach rest ≡ 0 → p.initializer ts ≡ Some (e, rest)
    init_whole {e} {ts} {rest} d low s = elim (below.initializer.exact e ts rest d tt low) [
      | itself q ↦ q
      | longer q lt goes ↦ let g = goes.1 in absurd (omega arith)
    ]

    variable_exact : {t : Token} {n : ℕ} {s : Span} {e : MaybeExpression} {ts mid rest : List Token} → IsIdentifier t → SpellsDims n t.span s ts mid → SpellsMaybeInit names texts e mid rest → Ends rest → height_if e ≤ h →
        variable_at h p (t ∷ ts) ≡ Some (record { name = identifier t; dims = n; init = e }, rest)
    unfolding variable_at
    variable_exact it_is d without_init (semicolon_ends it_is) low = rw (dims_complete d refl) refl
    variable_exact it_is d without_init (comma_ends it_is) low = rw (dims_complete d refl) refl
    variable_exact it_is d (with_init it_is i) e low = rw (dims_complete d refl, init_whole i low (ends_stop e)) refl

    more_variables_exact : (n : ℕ) (before : List VariableTree) {vs : Variables} {c : Token} {ts rest : List Token} → SpellsVariables names texts vs ts (c ∷ rest) → IsSymbol symbol.Semicolon c → variables_height vs ≤ h → length ts ≤ n →
        more_variables_at h p n before ts ≡ Some (variables (before ++ variables_of vs), c ∷ rest)
    unfolding more_variables_at
    more_variables_exact zero before (last_variable t d i) c low le = absurd (omega arith)
    more_variables_exact zero before (more_variables t d i k l) c low le = absurd (omega arith)
    more_variables_exact (suc n) before (last_variable t d i) it_is low le = rw (variable_exact t d i (semicolon_ends it_is) (omega arith)) refl
    more_variables_exact (suc n) before {c = c} {rest = rest} (more_variables {t = t} {n = m} {e = e} {vs = vs} i d j it_is l) s low le =
        rw (variable_exact i d j (comma_ends it_is) (omega arith))
        (more_variables_exact n (before ++ record { name = identifier t; dims = m; init = e } ∷ []) l s (omega arith) (let a = size-SpellsDims d in let b = size-SpellsMaybeInit names texts j in omega arith)
        ∙ ap (λ (xs : List VariableTree). Some (variables xs, c ∷ rest)) (append_assoc before (record { name = identifier t; dims = m; init = e } ∷ []) (variables_of vs)))

    pub variables_exact : {vs : Variables} {c : Token} {ts rest : List Token} → SpellsVariables names texts vs ts (c ∷ rest) → IsSymbol symbol.Semicolon c → variables_height vs ≤ h → variables_at h p ts ≡ Some (vs, c ∷ rest)
    unfolding variables_at
    variables_exact {vs} {c} {ts} {rest} l s low = more_variables_exact (length ts) [] l s low (omega arith) ∙ ap (λ (xs : Variables). Some (xs, c ∷ rest)) (same_variables vs)

    local_by : {m : Bool} {t : TypeName} {vs : Variables} {c : Token} (ts : List Token) {mid last : List Token} (rest : List Token) → final_at ts ≡ (m, mid) → SpellsTypeName t mid last → type_height t ≤ h → types_on last ≡ false → variables_at h p last ≡ Some (vs, c ∷ rest) → IsSymbol symbol.Semicolon c →
        local_at h p ts ≡ Some (tree.local (first_span ts) m t vs (join (first_span ts) c.span), rest)
    unfolding local_at
    local_by {t = t} ts {mid = mid} {last = last} rest f d low on v it_is = rw (f, types_complete_law h t mid last (d, low) on, v) refl

    pub local_exact : {m : Bool} {t : TypeName} {vs : Variables} {c : Token} {ts mid last rest : List Token} → SpellsFinal m ts mid → SpellsTypeName t mid last → SpellsVariables names texts vs last (c ∷ rest) → IsSymbol symbol.Semicolon c →
        type_height t ≤ h → variables_height vs ≤ h → local_at h p ts ≡ Some (tree.local (first_span ts) m t vs (join (first_span ts) c.span), rest)
    local_exact {ts = ts} {mid = mid} {rest = rest} f d l s a b = local_by ts rest (final_exact f (no_final mid d)) d a (variables_stop l) (variables_exact l s b) s

    pub local_read : {f s : Span} {m : Bool} {t : TypeName} {vs : Variables} {ts rest : List Token} → SpellsBlockStatement names texts (tree.local f m t vs s) ts rest → statement_height (tree.local f m t vs s) ≤ suc h →
        local_at h p ts ≡ Some (tree.local f m t vs s, rest)
    local_read (is_local f d l s) low = local_exact f d l s (omega arith) (omega arith)
    local_read (is_statement d) low = elim d [ ]

    -- ---- blocks

    pub item_whole : {b : Statement} {ts rest : List Token} → SpellsBlockStatement names texts b ts rest → statement_height b ≤ h → continues rest ≡ false → p.block_statement ts ≡ Some (b, rest)
    item_whole {b} {ts} {rest} d low s = elim (below.block_statement.exact b ts rest d tt low) [
      | itself q ↦ q
      | longer q lt goes ↦ absurd (let g = goes.0 in cc)
    ]

    close_exact : (n : ℕ) (before : List Statement) {c : Token} (rest : List Token) → 0 < n → IsSymbol symbol.CloseBrace c → more_statements_at h p n before (c ∷ rest) ≡ Some (statements before, c.span, rest)
    unfolding more_statements_at
    close_exact zero before rest some c = absurd (omega arith)
    close_exact (suc n) before rest some it_is = refl

    item_step : (n : ℕ) (before : List Statement) {b : Statement} (ts mid : List Token) → behind symbol.CloseBrace ts ≡ None → p.block_statement ts ≡ Some (b, mid) → more_statements_at h p (suc n) before ts ≡ more_statements_at h p n (before ++ b ∷ []) mid
    unfolding more_statements_at
    item_step n before ts mid q e = rw (q, e) refl

    more_statements_exact : (n : ℕ) (before : List Statement) {bs : Statements} {c : Token} {ts rest : List Token} → SpellsStatements names texts bs ts (c ∷ rest) → IsSymbol symbol.CloseBrace c → statements_height bs ≤ h → length ts ≤ n →
        more_statements_at h p n before ts ≡ Some (statements (before ++ items_of bs), c.span, rest)
    more_statements_exact zero before (last_statement d) c low le = absurd (let a = statements_spell_some names texts _ _ _ d in omega arith)
    more_statements_exact zero before (more_statements d l) c low le = absurd (let a = statements_spell_some names texts _ _ _ d in omega arith)
    more_statements_exact (suc n) before {c = c} {ts} {rest} (last_statement {b} d) i low le =
        item_step n before ts (c ∷ rest) (no_brace ts d) (item_whole d (omega arith) (brace_stops rest i)) ∙ close_exact n (before ++ b ∷ []) rest (let a = statements_spell_some names texts _ _ _ d in omega arith) i
    more_statements_exact (suc n) before {c = c} {ts} {rest} (more_statements {b} {bs} {mid = mid} d l) i low le =
        item_step n before ts mid (no_brace ts d) (item_whole d (omega arith) (stops mid (items_first names texts l)))
        ∙ more_statements_exact n (before ++ b ∷ []) l i (omega arith) (let a = statements_spell_some names texts _ _ _ d in omega arith)
        ∙ ap (λ (xs : List Statement). Some (statements xs, c.span, rest)) (append_assoc before (b ∷ []) (items_of bs))

    pub block_statements_exact : {bs : Statements} {c : Span} {ts rest : List Token} → SpellsBlock names texts bs c ts rest → statements_height bs ≤ h → block_statements_at h p ts ≡ Some (bs, c, rest)
    unfolding block_statements_at
    block_statements_exact {rest = rest} (empty_block {c} i) low = close_exact (length (c ∷ rest)) [] rest (omega arith) i
    block_statements_exact {bs} {ts = ts} {rest} (full_block {c = c} l i) low = more_statements_exact (length ts) [] l i low (omega arith) ∙ ap (λ (xs : Statements). Some (xs, c.span, rest)) (same_items bs)

    block_by : {bs : Statements} {c : Span} {o : Token} (ts : List Token) {rest : List Token} → IsSymbol symbol.OpenBrace o → block_statements_at h p ts ≡ Some (bs, c, rest) →
        block_layer h p (o ∷ ts) ≡ Some (record { opening = o.span; statements = bs; closing = c }, rest)
    unfolding block_layer
    block_by ts it_is e = rw e refl

    pub block_exact : {b : BlockTree} {ts rest : List Token} → SpellsBlockTree names texts b ts rest → block_tree_height b ≤ suc h → block_layer h p ts ≡ Some (b, rest)
    block_exact (is_block_tree {ts = ts} o d) low = block_by ts o (block_statements_exact d (omega arith))
