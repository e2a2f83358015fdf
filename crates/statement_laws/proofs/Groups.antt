-- Steps, labels, groups of a `switch` and catches are read where they are spelled.
use Rattle.std.proofs.Common.{◌≡◌, ℕ, zero, suc, ◌<◌, ◌≤◌, true, false, List, [], ◌∷◌, ◌++◌, length, Some, None, refl, sym, ap, ◌∙◌, arith, append_assoc, ◌||◌}
use Rattle.std.proofs.lemmas.List.{append-nil}
use Rattle.je_base.specs.declared.span.Span.{Span}
use Rattle.je_token.specs.declared.keyword.Keyword.TheVariants as word
use Rattle.je_token.specs.declared.symbol.Symbol.{Symbol}
use Rattle.je_token.specs.declared.symbol.Symbol.TheVariants as symbol
use Rattle.je_token.specs.declared.token.Token.{Token}
use Rattle.je_token.specs.declared.token.TokenKind.TheVariants as kind
use Rattle.je_ast.specs.Trees.{Expression, Expressions, Statement, Statements, Groups, Labels}
use Rattle.je_ast.specs.Trees as tree
use Rattle.je_ast.specs.Height.{height, heights, statements_height, groups_height, labels_height}
use Rattle.je_grammar.specs.Tokens.{it_is, IsWord, IsSymbol}
use Rattle.je_grammar.specs.Grammar.{Spells, SpellsSteps, last_step, more_steps, SpellsMaybeSteps, no_steps, some_steps, SpellsStatements, last_statement, more_statements, SpellsLabels, last_case, last_default, more_cases, more_defaults, SpellsGroups, no_groups, last_labels, more_groups}
use Rattle.parse_laws.specs.way.Tokens.{behind, is_symbol}
use Rattle.parse_laws.specs.way.Below.{Below}
use Rattle.parse_laws.specs.way.Lists.{expressions, statements}
use Rattle.parse_laws.specs.way.Readers.{IsBelow, itself, longer, reach, continues}
use Rattle.parse_laws.specs.way.Statements.{LabelTree, case_label, default_label, labels, GroupTree, groups, begins_label, more_steps_at, steps_before_at, switch_label_at, labels_at, group_statements_at, group_at, groups_at}
use Rattle.je_grammar.proofs.AtLeastOne.{expressions_spell_some, statements_spell_some}
use Rattle.je_grammar.proofs.Sizes.{size-SpellsStatements}
use Rattle.expression_laws.proofs.Begins.{lowest}
use Rattle.expression_laws.proofs.Inner.{items_of, same_items}
use Rattle.statement_laws.proofs.Stops.{begins_expression, begins_item, no_front, stops, expression_first, items_first}
use Rattle.statement_laws.proofs.Blocks.{item_whole}
use Rattle.statement_laws.proofs.Blocks as block

-- what steps end with
pub data StepEnd : Symbol → Type 0 where
  semicolon : StepEnd symbol.Semicolon
  close_paren : StepEnd symbol.CloseParen

abbrev pub labels_of : Labels → List LabelTree
labels_of tree.no_labels = []
labels_of (tree.case_label e ls) = case_label e ∷ labels_of ls
labels_of (tree.default_label s ls) = default_label s ∷ labels_of ls

same_labels : (ls : Labels) → labels (labels_of ls) ≡ ls
same_labels tree.no_labels = refl
same_labels (tree.case_label e ls) = ap (tree.case_label e) (same_labels ls)
same_labels (tree.default_label s ls) = ap (tree.default_label s) (same_labels ls)

abbrev pub groups_of : Groups → List GroupTree
groups_of tree.no_groups = []
groups_of (tree.more_groups ls bs gs) = record { labels = ls; statements = bs } ∷ groups_of gs

same_groups : (gs : Groups) → groups (groups_of gs) ≡ gs
same_groups tree.no_groups = refl
same_groups (tree.more_groups ls bs gs) = ap (tree.more_groups ls bs) (same_groups gs)

-- what a group ends before
data GroupEnd : List Token → Type 0 where
  at_case : {w : Token} {ts : List Token} → IsWord word.Case w → GroupEnd (w ∷ ts)
  at_default : {w : Token} {ts : List Token} → IsWord word.Default w → GroupEnd (w ∷ ts)
  at_brace : {c : Token} {ts : List Token} → IsSymbol symbol.CloseBrace c → GroupEnd (c ∷ ts)

end_stops : {ts : List Token} → GroupEnd ts → continues ts ≡ false
end_stops (at_case it_is) = refl
end_stops (at_default it_is) = refl
end_stops (at_brace it_is) = refl

end_seen : {ts : List Token} → GroupEnd ts → (begins_label ts || is_symbol symbol.CloseBrace ts) ≡ true
end_seen (at_case it_is) = refl
end_seen (at_default it_is) = refl
end_seen (at_brace it_is) = refl

brace_no_label : {c : Token} (rest : List Token) → IsSymbol symbol.CloseBrace c → begins_label (c ∷ rest) ≡ false
brace_no_label rest it_is = refl

module _ (names texts : List (List ℕ)) where
  labels_begin : {ls : Labels} {ts rest : List Token} → SpellsLabels names texts ls ts rest → begins_label ts ≡ true
  labels_begin (last_case it_is d k) = refl
  labels_begin (last_default it_is k) = refl
  labels_begin (more_cases it_is d k l) = refl
  labels_begin (more_defaults it_is k l) = refl

  labels_no_brace : {ls : Labels} {ts rest : List Token} → SpellsLabels names texts ls ts rest → behind symbol.CloseBrace ts ≡ None
  labels_no_brace (last_case it_is d k) = refl
  labels_no_brace (last_default it_is k) = refl
  labels_no_brace (more_cases it_is d k l) = refl
  labels_no_brace (more_defaults it_is k l) = refl

  labels_end : {ls : Labels} {ts rest : List Token} → SpellsLabels names texts ls ts rest → GroupEnd ts
  labels_end (last_case w d k) = at_case w
  labels_end (last_default w k) = at_default w
  labels_end (more_cases w d k l) = at_case w
  labels_end (more_defaults w k l) = at_default w

  groups_end : {gs : Groups} {c : Span} {ts rest : List Token} → SpellsGroups names texts gs c ts rest → GroupEnd ts
  groups_end (no_groups c) = at_brace c
  groups_end (last_labels l c) = labels_end l
  groups_end (more_groups l b g) = labels_end l

  items_no_end : {bs : Statements} (ts : List Token) {rest : List Token} → SpellsStatements names texts bs ts rest → (begins_label ts || is_symbol symbol.CloseBrace ts) ≡ false
  items_no_end ts l = let a = items_first names texts l in
      rw (no_front begins_item (kind.Keyword word.Case) ts refl a, no_front begins_item (kind.Keyword word.Default) ts refl a, no_front begins_item (kind.Symbol symbol.CloseBrace) ts refl a) refl

  items_no_label : {bs : Statements} (ts : List Token) {rest : List Token} → SpellsStatements names texts bs ts rest → begins_label ts ≡ false
  items_no_label ts l = let a = items_first names texts l in
      rw (no_front begins_item (kind.Keyword word.Case) ts refl a, no_front begins_item (kind.Keyword word.Default) ts refl a) refl

  steps_no_end : {es : Expressions} {y : Symbol} (ts : List Token) {rest : List Token} → SpellsSteps names texts es ts rest → StepEnd y → behind y ts ≡ None
  steps_no_end ts (last_step s d) semicolon = no_front begins_expression (kind.Symbol symbol.Semicolon) ts refl (expression_first names texts d)
  steps_no_end ts (more_steps s d k l) semicolon = no_front begins_expression (kind.Symbol symbol.Semicolon) ts refl (expression_first names texts d)
  steps_no_end ts (last_step s d) close_paren = no_front begins_expression (kind.Symbol symbol.CloseParen) ts refl (expression_first names texts d)
  steps_no_end ts (more_steps s d k l) close_paren = no_front begins_expression (kind.Symbol symbol.CloseParen) ts refl (expression_first names texts d)

  module _ (h : ℕ) (p : Below) (below : IsBelow names texts h p) where
    -- an expression before a token that goes on with none
    pub whole : {e : Expression} {ts rest : List Token} → Spells names texts e ts rest → height e ≤ h → reach rest ≡ 0 → p.expression 1 ts ≡ Some (e, rest)
    whole {e} {ts} {rest} d low stops = elim ((below.expression 1 (omega arith) (omega arith)).exact e ts rest d (lowest names texts d) low) [
      | itself e ↦ e
      | longer e lt goes ↦ absurd (omega arith)
    ]

    -- ---- steps

    more_steps_exact : (n : ℕ) (before : List Expression) {y : Symbol} {es : Expressions} {c : Token} {ts rest : List Token} → StepEnd y → SpellsSteps names texts es ts (c ∷ rest) → IsSymbol y c → heights es ≤ h → length ts ≤ n →
        more_steps_at h p n y before ts ≡ Some (expressions (before ++ items_of es), rest)
    unfolding more_steps_at
    more_steps_exact zero before y (last_step s d) c low le = absurd (let a = expressions_spell_some names texts _ _ _ d in omega arith)
    more_steps_exact zero before y (more_steps s d k l) c low le = absurd (let a = expressions_spell_some names texts _ _ _ d in omega arith)
    more_steps_exact (suc n) before semicolon (last_step s d) it_is low le = rw (whole d (omega arith) refl, s) refl
    more_steps_exact (suc n) before close_paren (last_step s d) it_is low le = rw (whole d (omega arith) refl, s) refl
    more_steps_exact (suc n) before {rest = rest} y (more_steps {e} {es} s d it_is l) c low le =
        rw (whole d (omega arith) refl, s)
        (more_steps_exact n (before ++ e ∷ []) y l c (omega arith) (let a = expressions_spell_some names texts _ _ _ d in omega arith)
        ∙ ap (λ (xs : List Expression). Some (expressions xs, rest)) (append_assoc before (e ∷ []) (items_of es)))

    pub steps_before_exact : {y : Symbol} {es : Expressions} {c : Token} {ts rest : List Token} → StepEnd y → SpellsMaybeSteps names texts es ts (c ∷ rest) → IsSymbol y c → heights es ≤ h → steps_before_at h p y ts ≡ Some (es, rest)
    unfolding steps_before_at
    steps_before_exact semicolon no_steps it_is low = refl
    steps_before_exact close_paren no_steps it_is low = refl
    steps_before_exact {es = es} {ts = ts} {rest} y (some_steps l) c low =
        rw (steps_no_end ts l y) (more_steps_exact (length ts) [] y l c low (omega arith) ∙ ap (λ (xs : Expressions). Some (xs, rest)) (same_items es))

    -- ---- labels

    case_exact : {w k : Token} {e : Expression} {ts rest : List Token} → IsWord word.Case w → Spells names texts e ts (k ∷ rest) → IsSymbol symbol.Colon k → height e ≤ h → switch_label_at h p (w ∷ ts) ≡ Some (case_label e, rest)
    unfolding switch_label_at
    case_exact it_is d it_is low = rw (whole d low refl) refl

    default_exact : {w k : Token} (rest : List Token) → IsWord word.Default w → IsSymbol symbol.Colon k → switch_label_at h p (w ∷ k ∷ rest) ≡ Some (default_label w.span, rest)
    unfolding switch_label_at
    default_exact rest it_is it_is = refl

    label_last : (n : ℕ) (before : List LabelTree) {l : LabelTree} (ts rest : List Token) → switch_label_at h p ts ≡ Some (l, rest) → begins_label rest ≡ false → labels_at h p (suc n) before ts ≡ Some (labels (before ++ l ∷ []), rest)
    unfolding labels_at
    label_last n before ts rest e f = rw (e, f) refl

    label_step : (n : ℕ) (before : List LabelTree) {l : LabelTree} (ts rest : List Token) → switch_label_at h p ts ≡ Some (l, rest) → begins_label rest ≡ true → labels_at h p (suc n) before ts ≡ labels_at h p n (before ++ l ∷ []) rest
    unfolding labels_at
    label_step n before ts rest e f = rw (e, f) refl

    labels_exact : (n : ℕ) (before : List LabelTree) {ls : Labels} {ts rest : List Token} → SpellsLabels names texts ls ts rest → labels_height ls ≤ h → begins_label rest ≡ false → length ts ≤ n →
        labels_at h p n before ts ≡ Some (labels (before ++ labels_of ls), rest)
    labels_exact zero before (last_case w d k) low f le = absurd (omega arith)
    labels_exact zero before (last_default w k) low f le = absurd (omega arith)
    labels_exact zero before (more_cases w d k l) low f le = absurd (omega arith)
    labels_exact zero before (more_defaults w k l) low f le = absurd (omega arith)
    labels_exact (suc n) before {ts = ts} {rest} (last_case w d k) low f le = label_last n before ts rest (case_exact w d k (omega arith)) f
    labels_exact (suc n) before {ts = ts} {rest} (last_default w k) low f le = label_last n before ts rest (default_exact rest w k) f
    labels_exact (suc n) before {ts = ts} {rest} (more_cases {e = e} {ls} {mid = mid} w d k l) low f le =
        label_step n before ts mid (case_exact w d k (omega arith)) (labels_begin l)
        ∙ labels_exact n (before ++ case_label e ∷ []) l (omega arith) f (let a = expressions_spell_some names texts _ _ _ d in omega arith)
        ∙ ap (λ (xs : List LabelTree). Some (labels xs, rest)) (append_assoc before (case_label e ∷ []) (labels_of ls))
    labels_exact (suc n) before {ts = ts} {rest} (more_defaults {w} {ls = ls} {ts = mid} i k l) low f le =
        label_step n before ts mid (default_exact mid i k) (labels_begin l)
        ∙ labels_exact n (before ++ default_label w.span ∷ []) l low f (omega arith)
        ∙ ap (λ (xs : List LabelTree). Some (labels xs, rest)) (append_assoc before (default_label w.span ∷ []) (labels_of ls))

    -- ---- groups

    item_step : (n : ℕ) (before : List Statement) {b : Statement} (ts mid : List Token) → (begins_label ts || is_symbol symbol.CloseBrace ts) ≡ false → p.block_statement ts ≡ Some (b, mid) →
        group_statements_at h p (suc n) before ts ≡ group_statements_at h p n (before ++ b ∷ []) mid
    unfolding group_statements_at
    item_step n before ts mid f e = rw (f, e) refl

    items_close : (n : ℕ) (before : List Statement) (ts : List Token) → 0 < n → (begins_label ts || is_symbol symbol.CloseBrace ts) ≡ true → group_statements_at h p n before ts ≡ Some (statements before, ts)
    unfolding group_statements_at
    items_close zero before ts some e = absurd (omega arith)
    items_close (suc n) before ts some e = rw e refl

    items_exact : (n : ℕ) (before : List Statement) {bs : Statements} {ts rest : List Token} → SpellsStatements names texts bs ts rest → GroupEnd rest → statements_height bs ≤ h → length ts ≤ n →
        group_statements_at h p n before ts ≡ Some (statements (before ++ block.items_of bs), rest)
    items_exact zero before (last_statement d) e low le = absurd (let a = statements_spell_some names texts _ _ _ d in omega arith)
    items_exact zero before (more_statements d l) e low le = absurd (let a = statements_spell_some names texts _ _ _ d in omega arith)
    items_exact (suc n) before {ts = ts} {rest} (last_statement {b} d) e low le =
        item_step n before ts rest (items_no_end ts (last_statement d)) (item_whole names texts h p below d (omega arith) (end_stops e))
        ∙ items_close n (before ++ b ∷ []) rest (positive e (let a = statements_spell_some names texts _ _ _ d in omega arith)) (end_seen e)
      where
        positive : {r : List Token} {m : ℕ} → GroupEnd r → length r ≤ m → 0 < m
        positive (at_case i) f = omega arith
        positive (at_default i) f = omega arith
        positive (at_brace i) f = omega arith
    items_exact (suc n) before {ts = ts} {rest} (more_statements {b} {bs} {mid = mid} d l) e low le =
        item_step n before ts mid (items_no_end ts (more_statements d l)) (item_whole names texts h p below d (omega arith) (stops mid (items_first names texts l)))
        ∙ items_exact n (before ++ b ∷ []) l e (omega arith) (let a = statements_spell_some names texts _ _ _ d in omega arith)
        ∙ ap (λ (xs : List Statement). Some (statements xs, rest)) (append_assoc before (b ∷ []) (block.items_of bs))

    group_exact : {ls : Labels} {bs : Statements} {ts mid last : List Token} → SpellsLabels names texts ls ts mid → SpellsStatements names texts bs mid last → GroupEnd last → labels_height ls ≤ h → statements_height bs ≤ h →
        group_at h p ts ≡ Some (record { labels = ls; statements = bs }, last)
    unfolding group_at
    group_exact {ls} {bs} {ts} {mid} {last} l b e i j =
        rw (labels_exact (length ts) [] l i (items_no_label mid b) (omega arith), same_labels ls, items_exact (length mid) [] b e j (omega arith), block.same_items bs) refl

    last_exact : {ls : Labels} {c : Token} {ts rest : List Token} → SpellsLabels names texts ls ts (c ∷ rest) → IsSymbol symbol.CloseBrace c → labels_height ls ≤ h →
        group_at h p ts ≡ Some (record { labels = ls; statements = tree.no_statements }, c ∷ rest)
    unfolding group_at
    last_exact {ls} {c} {ts} {rest} l i low =
        rw (labels_exact (length ts) [] l low (brace_no_label rest i) (omega arith), same_labels ls, items_close (length (c ∷ rest)) [] (c ∷ rest) (omega arith) (end_seen (at_brace i))) refl

    group_step : (n : ℕ) (before : List GroupTree) {g : GroupTree} (ts mid : List Token) → behind symbol.CloseBrace ts ≡ None → group_at h p ts ≡ Some (g, mid) → groups_at h p (suc n) before ts ≡ groups_at h p n (before ++ g ∷ []) mid
    unfolding groups_at
    group_step n before ts mid q e = rw (q, e) refl

    groups_close : (n : ℕ) (before : List GroupTree) {c : Token} (rest : List Token) → 0 < n → IsSymbol symbol.CloseBrace c → groups_at h p n before (c ∷ rest) ≡ Some (groups before, c.span, rest)
    unfolding groups_at
    groups_close zero before rest some c = absurd (omega arith)
    groups_close (suc n) before rest some it_is = refl

    labels_some : {ls : Labels} {ts rest : List Token} → SpellsLabels names texts ls ts rest → length rest < length ts
    labels_some (last_case w d k) = let a = expressions_spell_some names texts _ _ _ d in omega arith
    labels_some (last_default w k) = omega arith
    labels_some (more_cases w d k l) = let a = expressions_spell_some names texts _ _ _ d in let b = labels_some l in omega arith
    labels_some (more_defaults w k l) = let b = labels_some l in omega arith

    more_groups_exact : (n : ℕ) (before : List GroupTree) {gs : Groups} {c : Span} {ts rest : List Token} → SpellsGroups names texts gs c ts rest → groups_height gs ≤ h → length ts ≤ n →
        groups_at h p n before ts ≡ Some (groups (before ++ groups_of gs), c, rest)
    more_groups_exact n before {rest = rest} (no_groups {c} i) low le = groups_close n before rest (omega arith) i ∙ ap (λ (xs : List GroupTree). Some (groups xs, c.span, rest)) (sym (append-nil before))
    more_groups_exact zero before (last_labels l c) low le = absurd (let a = labels_some l in omega arith)
    more_groups_exact zero before (more_groups l b g) low le = absurd (let a = labels_some l in omega arith)
    more_groups_exact (suc n) before {ts = ts} {rest} (last_labels {ls} {c} l i) low le =
        group_step n before ts (c ∷ rest) (labels_no_brace l) (last_exact l i (omega arith)) ∙ groups_close n (before ++ record { labels = ls; statements = tree.no_statements } ∷ []) rest (let a = labels_some l in omega arith) i
    more_groups_exact (suc n) before {c = c} {ts} {rest} (more_groups {ls} {bs} {gs} {last = last} l b g) low le =
        group_step n before ts last (labels_no_brace l) (group_exact l b (groups_end g) (omega arith) (omega arith))
        ∙ more_groups_exact n (before ++ record { labels = ls; statements = bs } ∷ []) g (omega arith) (let a = labels_some l in let e = size-SpellsStatements names texts b in omega arith)
        ∙ ap (λ (xs : List GroupTree). Some (groups xs, c, rest)) (append_assoc before (record { labels = ls; statements = bs } ∷ []) (groups_of gs))

    pub groups_exact : {gs : Groups} {c : Span} {ts rest : List Token} → SpellsGroups names texts gs c ts rest → groups_height gs ≤ h → groups_at h p (length ts) [] ts ≡ Some (gs, c, rest)
    groups_exact {gs} {c} {ts} {rest} g low = more_groups_exact (length ts) [] g low (omega arith) ∙ ap (λ (xs : Groups). Some (xs, c, rest)) (same_groups gs)
