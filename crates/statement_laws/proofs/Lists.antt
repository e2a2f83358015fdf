-- What is read as variables, a block's statements, steps, groups of a `switch` or catches is spelled.
use Rattle.std.proofs.Common.{◌≡◌, ℕ, zero, suc, ◌≤◌, Bool, true, false, List, [], ◌∷◌, ◌++◌, length, IfSome, refl, sym, ap, ◌∙◌, arith, append_assoc, ◌||◌}
use Rattle.je_base.specs.declared.span.Span.{Span}
use Rattle.std.proofs.lemmas.List.{append-nil}
use Rattle.je_token.specs.declared.keyword.Keyword.TheVariants as word
use Rattle.je_token.specs.declared.symbol.Symbol.{Symbol}
use Rattle.je_token.specs.declared.symbol.Symbol.TheVariants as symbol
use Rattle.je_token.specs.declared.token.Token.{Token}
use Rattle.je_token.specs.declared.token.TokenKind.TheVariants as kind
use Rattle.je_ast.specs.declared.name.Identifier.{Identifier}
use Rattle.je_ast.specs.Types.{QualifiedName}
use Rattle.je_ast.specs.Trees.{Expression, Expressions, MaybeExpression, Statement, Statements, Variables, Groups, Labels, Catches}
use Rattle.je_ast.specs.Trees as tree
use Rattle.je_ast.specs.Height.{height, heights, height_if, statement_height, statements_height, variables_height, groups_height, labels_height, catches_height}
use Rattle.je_grammar.specs.Tokens.{IsWord, IsSymbol, IsIdentifier, identifier, first_span}
use Rattle.je_grammar.specs.Operators.{level}
use Rattle.je_grammar.specs.Types.{SpellsName, SpellsDims, SpellsFinal}
use Rattle.je_grammar.specs.Context.{is_step}
use Rattle.je_grammar.specs.Grammar.{Spells, SpellsInit, SpellsVariables, last_variable, more_variables, SpellsMaybeInit, without_init, with_init, SpellsSteps, last_step, more_steps, SpellsMaybeSteps, no_steps, some_steps}
use Rattle.je_grammar.specs.Grammar.{SpellsBlockStatement, SpellsStatements, last_statement, more_statements, SpellsBlock, empty_block, full_block, SpellsLabels, last_case, last_default, more_cases, more_defaults, SpellsGroups, no_groups, last_labels, more_groups, SpellsCatches, no_catches, more_catches}
use Rattle.parse_laws.specs.way.Tokens.{◌>>=◌, behind, behind_word, is_symbol, identifier_at}
use Rattle.parse_laws.specs.way.Types.{name_at, dims_at, final_at}
use Rattle.parse_laws.specs.way.Below.{Below, BlockTree}
use Rattle.parse_laws.specs.way.Lists.{expressions, statements, VariableTree, variables}
use Rattle.parse_laws.specs.way.Readers.{IsRead, IsBelow, SpellsBlockTree, is_block_tree, block_tree_height, any}
use Rattle.parse_laws.specs.way.Statements.{CatchTree, catches, LabelTree, case_label, default_label, labels, GroupTree, groups, begins_label, variable_at, more_variables_at, variables_at, more_statements_at, block_statements_at, more_steps_at, steps_before_at, switch_label_at, labels_at, group_statements_at, group_at, groups_at, catch_at, catches_at}
use Rattle.parse_laws.proofs.Rules.{bind, either, choose, weaken}
use Rattle.parse_laws.proofs.Fronts.{Front, front, behind_front, behind_of, FrontName, front_name, identifier_front}
use Rattle.expression_laws.proofs.Primaries.{front_of}
use Rattle.type_laws.proofs.Names.{name_sound, dims_sound}
use Rattle.type_laws.proofs.Heads.{final_sound}

-- items read behind others: the whole is theirs and these, and these spell the tokens
pub record Items {A T : Type 0} (make : List A → T) (spells : T → List Token → List Token → Type 0) (height_of : T → ℕ) (h : ℕ) (before : List A) (ts : List Token) (y : T × List Token) : Type 0 where
  pub items : List A
  pub whole : y.0 ≡ make (before ++ items)
  pub spelled : spells (make items) ts y.1
  pub within : height_of (make items) ≤ h

-- the same with a span
pub record ClosedItems {A T : Type 0} (make : List A → T) (spells : T → Span → List Token → List Token → Type 0) (height_of : T → ℕ) (h : ℕ) (before : List A) (ts : List Token) (y : T × Span × List Token) : Type 0 where
  pub items : List A
  pub whole : y.0 ≡ make (before ++ items)
  pub spelled : spells (make items) y.1 ts y.2
  pub within : height_of (make items) ≤ h

pub record ClosedRead {T : Type 0} (spells : T → Span → List Token → List Token → Type 0) (height_of : T → ℕ) (h : ℕ) (ts : List Token) (y : T × Span × List Token) : Type 0 where
  pub spelled : spells y.0 y.1 ts y.2
  pub within : height_of y.0 ≤ h

-- what was read stands before this symbol
pub record ReadBefore {T : Type 0} (spells : T → List Token → List Token → Type 0) (height_of : T → ℕ) (end : Symbol) (h : ℕ) (ts : List Token) (y : T × List Token) : Type 0 where
  pub last : List Token
  pub spelled : spells y.0 ts last
  pub ends : Front (kind.Symbol end) last y.1
  pub within : height_of y.0 ≤ h

module _ (names texts : List (List ℕ)) where
  -- ---- one item

  -- id Dims ["=" Init]
  pub data IsVariable : VariableTree → List Token → List Token → Type 0 where
    is_variable : {t : Token} {n : ℕ} {s : Span} {e : MaybeExpression} {ts mid rest : List Token} → IsIdentifier t → SpellsDims n t.span s ts mid → SpellsMaybeInit names texts e mid rest →
        IsVariable (record { name = identifier t; dims = n; init = e }) (t ∷ ts) rest

  abbrev pub variable_height : VariableTree → ℕ
  variable_height v = height_if v.init

  -- Label
  pub data IsLabel : LabelTree → List Token → List Token → Type 0 where
    is_case : {w k : Token} {e : Expression} {ts rest : List Token} → IsWord word.Case w → Spells names texts e ts (k ∷ rest) → IsSymbol symbol.Colon k → IsLabel (case_label e) (w ∷ ts) rest
    is_default : {w k : Token} {rest : List Token} → IsWord word.Default w → IsSymbol symbol.Colon k → IsLabel (default_label w.span) (w ∷ k ∷ rest) rest

  abbrev pub label_height : LabelTree → ℕ
  label_height (case_label e) = height e
  label_height (default_label s) = 0

  -- the statements behind labels
  pub data MaybeStatements : Statements → List Token → List Token → Type 0 where
    no_statement : {rest : List Token} → MaybeStatements tree.no_statements rest rest
    some_statements : {bs : Statements} {ts rest : List Token} → SpellsStatements names texts bs ts rest → MaybeStatements bs ts rest

  pub data IsGroup : GroupTree → List Token → List Token → Type 0 where
    is_group : {ls : Labels} {bs : Statements} {ts mid rest : List Token} → SpellsLabels names texts ls ts mid → SpellsStatements names texts bs mid rest →
        IsGroup (record { labels = ls; statements = bs }) ts rest
    is_last : {ls : Labels} {ts mid rest : List Token} → SpellsLabels names texts ls ts mid → Front (kind.Symbol symbol.CloseBrace) mid rest →
        IsGroup (record { labels = ls; statements = tree.no_statements }) ts mid

  abbrev pub group_height : GroupTree → ℕ
  group_height g = groups_height (groups (g ∷ []))

  -- Catch
  pub data IsCatch : CatchTree → List Token → List Token → Type 0 where
    is_catch : {w o t p b : Token} {m : Bool} {n : QualifiedName} {bs : Statements} {c : Span} {ts mid last rest : List Token} →
        IsWord word.Catch w → IsSymbol symbol.OpenParen o → SpellsFinal m ts mid → SpellsName n mid (t ∷ p ∷ b ∷ last) → IsIdentifier t →
        IsSymbol symbol.CloseParen p → IsSymbol symbol.OpenBrace b → SpellsBlock names texts bs c last rest →
        IsCatch (record { is_final = m; class = n; name = identifier t; block = record { opening = b.span; statements = bs; closing = c } }) (w ∷ o ∷ ts) rest

  abbrev pub catch_height : CatchTree → ℕ
  catch_height c = block_tree_height c.block

  -- ---- from what stands in front to what is spelled

  variable_by : {x : Identifier × List Token} {n : ℕ} {s : Span} {e : MaybeExpression} {ts mid rest : List Token} → FrontName ts x → SpellsDims n x.0.span s x.1 mid → SpellsMaybeInit names texts e mid rest →
      IsVariable (record { name = x.0; dims = n; init = e }) ts rest
  variable_by (front_name t) d i = is_variable t d i

  init_by : {e : Expression} {ts mid rest : List Token} → Front (kind.Symbol symbol.Assign) ts mid → SpellsInit names texts e mid rest → SpellsMaybeInit names texts (tree.an_expression e) ts rest
  init_by (front a) i = with_init a i

  pub variable_alone : {v : VariableTree} {ts rest : List Token} → IsVariable v ts rest → SpellsVariables names texts (tree.more_variables v.name v.dims v.init tree.no_variables) ts rest
  variable_alone (is_variable t d i) = last_variable t d i

  variable_then : {v : VariableTree} {vs : Variables} {ts next mid rest : List Token} → IsVariable v ts next → Front (kind.Symbol symbol.Comma) next mid → SpellsVariables names texts vs mid rest →
      SpellsVariables names texts (tree.more_variables v.name v.dims v.init vs) ts rest
  variable_then (is_variable t d i) (front k) l = more_variables t d i k l

  closed_by : {ts rest : List Token} → Front (kind.Symbol symbol.CloseBrace) ts rest → SpellsBlock names texts tree.no_statements (first_span ts) ts rest
  closed_by (front c) = empty_block c

  statement_then : {b : Statement} {bs : Statements} {c : Span} {ts mid rest : List Token} → SpellsBlockStatement names texts b ts mid → SpellsBlock names texts bs c mid rest →
      SpellsBlock names texts (tree.more_statements b bs) c ts rest
  statement_then d (empty_block c) = full_block (last_statement d) c
  statement_then d (full_block l c) = full_block (more_statements d l) c

  step_then : {e : Expression} {es : Expressions} {ts next mid rest : List Token} → is_step e ≡ true → Spells names texts e ts next → Front (kind.Symbol symbol.Comma) next mid → SpellsSteps names texts es mid rest →
      SpellsSteps names texts (tree.more_expressions e es) ts rest
  step_then s d (front k) l = more_steps s d k l

  case_by : {e : Expression} {ts mid last rest : List Token} → Front (kind.Keyword word.Case) ts mid → Spells names texts e mid last → Front (kind.Symbol symbol.Colon) last rest → IsLabel (case_label e) ts rest
  case_by (front w) d (front k) = is_case w d k

  default_by : {ts mid rest : List Token} → Front (kind.Keyword word.Default) ts mid → Front (kind.Symbol symbol.Colon) mid rest → IsLabel (default_label (first_span ts)) ts rest
  default_by (front w) (front k) = is_default w k

  label_alone : {l : LabelTree} {ts rest : List Token} → IsLabel l ts rest → SpellsLabels names texts (labels (l ∷ [])) ts rest
  label_alone (is_case w d k) = last_case w d k
  label_alone (is_default w k) = last_default w k

  label_then : {l : LabelTree} (ls : List LabelTree) {ts mid rest : List Token} → IsLabel l ts mid → SpellsLabels names texts (labels ls) mid rest → SpellsLabels names texts (labels (l ∷ ls)) ts rest
  label_then ls (is_case w d k) l = more_cases w d k l
  label_then ls (is_default w k) l = more_defaults w k l

  statement_more : {b : Statement} {bs : Statements} {ts mid rest : List Token} → SpellsBlockStatement names texts b ts mid → MaybeStatements bs mid rest → MaybeStatements (tree.more_statements b bs) ts rest
  statement_more d no_statement = some_statements (last_statement d)
  statement_more d (some_statements l) = some_statements (more_statements d l)

  no_groups_by : {ts rest : List Token} → Front (kind.Symbol symbol.CloseBrace) ts rest → SpellsGroups names texts tree.no_groups (first_span ts) ts rest
  no_groups_by (front c) = no_groups c

  last_by : {ls : Labels} {ts mid rest : List Token} → SpellsLabels names texts ls ts mid → Front (kind.Symbol symbol.CloseBrace) mid rest →
      SpellsGroups names texts (tree.more_groups ls tree.no_statements tree.no_groups) (first_span mid) ts rest
  last_by l (front c) = last_labels l c

  catch_by : {m : Bool} {n : QualifiedName} {x : Identifier × List Token} {k : BlockTree} {ts a inside mid at_name behind_it rest : List Token} → Front (kind.Keyword word.Catch) ts a → Front (kind.Symbol symbol.OpenParen) a inside →
      SpellsFinal m inside mid → SpellsName n mid at_name → FrontName at_name x → Front (kind.Symbol symbol.CloseParen) x.1 behind_it → SpellsBlockTree names texts k behind_it rest →
      IsCatch (record { is_final = m; class = n; name = x.0; block = k }) ts rest
  catch_by (front w) (front o) f n (front_name t) (front p) (is_block_tree b l) = is_catch w o f n t p b l

  catch_then : {c : CatchTree} {cs : Catches} {s e : Span} {ts mid rest : List Token} → IsCatch c ts mid → SpellsCatches names texts cs c.block.closing e mid rest →
      SpellsCatches names texts (tree.more_catches c.is_final c.class c.name c.block.opening c.block.statements c.block.closing cs) s e ts rest
  catch_then (is_catch w o f n t p b l) r = more_catches w o f n t p b l r

  module _ (h : ℕ) (p : Below) (below : IsBelow names texts h p) where
    abbrev pub GoodExpression : List Token → Expression × List Token → Type 0
    GoodExpression = IsRead (Spells names texts) height (λ e. 1 ≤ level e) h

    pub expression_sound : (ts : List Token) → IfSome (p.expression 1 ts) (GoodExpression ts)
    expression_sound ts = (below.expression 1 (omega arith) (omega arith)).sound ts

    -- ---- variables

    abbrev pub GoodVariable : List Token → VariableTree × List Token → Type 0
    GoodVariable = IsRead IsVariable variable_height any h

    pub variable_sound : (ts : List Token) → IfSome (variable_at h p ts) (GoodVariable ts)
    unfolding variable_at
    variable_sound ts =
        bind (identifier_at ts) _ (FrontName ts) (GoodVariable ts) (identifier_front ts)
        (λ x i. either (behind symbol.Assign (dims_at x.0.span x.1).2) _ _ (Front (kind.Symbol symbol.Assign) (dims_at x.0.span x.1).2) (λ o. IfSome o (GoodVariable ts)) (behind_front (kind.Symbol symbol.Assign) (dims_at x.0.span x.1).2)
        (λ mid a. bind (p.initializer mid) _ (IsRead (SpellsInit names texts) height any h mid) (GoodVariable ts) (below.initializer.sound mid)
        (λ y g. record { spelled = variable_by i (dims_sound x.0.span x.1) (init_by a g.spelled); fits = tt; within = g.within }))
        (record { spelled = variable_by i (dims_sound x.0.span x.1) without_init; fits = tt; within = omega arith }))

    abbrev VariableItems : List VariableTree → List Token → Variables × List Token → Type 0
    VariableItems = Items variables (SpellsVariables names texts) variables_height h

    more_variables_sound : (n : ℕ) (before : List VariableTree) (ts : List Token) → IfSome (more_variables_at h p n before ts) (VariableItems before ts)
    unfolding more_variables_at
    more_variables_sound zero before ts = tt
    more_variables_sound (suc n) before ts =
        bind (variable_at h p ts) _ (GoodVariable ts) (VariableItems before ts) (variable_sound ts)
        (λ x g. either (behind symbol.Comma x.1) _ _ (Front (kind.Symbol symbol.Comma) x.1) (λ o. IfSome o (VariableItems before ts)) (behind_front (kind.Symbol symbol.Comma) x.1)
        (λ mid k. weaken _ (VariableItems (before ++ x.0 ∷ []) mid) (VariableItems before ts) (more_variables_sound n (before ++ x.0 ∷ []) mid)
        (λ y v. record {
          items = x.0 ∷ v.items;
          whole = v.whole ∙ ap variables (append_assoc before (x.0 ∷ []) v.items);
          spelled = variable_then g.spelled k v.spelled;
          within = let a = g.within in let b = v.within in omega arith;
        }))
        (record { items = x.0 ∷ []; whole = refl; spelled = variable_alone g.spelled; within = let a = g.within in omega arith }))

    pub variables_sound : (ts : List Token) → IfSome (variables_at h p ts) (IsRead (SpellsVariables names texts) variables_height any h ts)
    unfolding variables_at
    variables_sound ts =
        weaken _ (VariableItems [] ts) _ (more_variables_sound (length ts) [] ts)
        (λ y v. record { spelled = rw v.whole v.spelled; fits = tt; within = rw v.whole v.within })

    -- ---- a block's statements

    abbrev GoodStatement : List Token → Statement × List Token → Type 0
    GoodStatement = IsRead (SpellsBlockStatement names texts) statement_height any h

    abbrev BlockItems : List Statement → List Token → Statements × Span × List Token → Type 0
    BlockItems = ClosedItems statements (SpellsBlock names texts) statements_height h

    more_statements_sound : (n : ℕ) (before : List Statement) (ts : List Token) → IfSome (more_statements_at h p n before ts) (BlockItems before ts)
    unfolding more_statements_at
    more_statements_sound zero before ts = tt
    more_statements_sound (suc n) before ts =
        either (behind symbol.CloseBrace ts) _ _ (Front (kind.Symbol symbol.CloseBrace) ts) (λ o. IfSome o (BlockItems before ts)) (behind_front (kind.Symbol symbol.CloseBrace) ts)
        (λ rest c. record { items = []; whole = ap statements (sym (append-nil before)); spelled = closed_by c; within = omega arith })
        (bind (p.block_statement ts) _ (GoodStatement ts) (BlockItems before ts) (below.block_statement.sound ts)
        (λ x g. weaken _ (BlockItems (before ++ x.0 ∷ []) x.1) (BlockItems before ts) (more_statements_sound n (before ++ x.0 ∷ []) x.1)
        (λ y v. record {
          items = x.0 ∷ v.items;
          whole = v.whole ∙ ap statements (append_assoc before (x.0 ∷ []) v.items);
          spelled = statement_then g.spelled v.spelled;
          within = let a = g.within in let b = v.within in omega arith;
        })))

    pub block_statements_sound : (ts : List Token) → IfSome (block_statements_at h p ts) (ClosedRead (SpellsBlock names texts) statements_height h ts)
    unfolding block_statements_at
    block_statements_sound ts =
        weaken _ (BlockItems [] ts) _ (more_statements_sound (length ts) [] ts)
        (λ y v. record { spelled = rw v.whole v.spelled; within = rw v.whole v.within })

    -- ---- steps

    record StepItems (end : Symbol) (before : List Expression) (ts : List Token) (y : Expressions × List Token) : Type 0 where
      items : List Expression
      last : List Token
      whole : y.0 ≡ expressions (before ++ items)
      spelled : SpellsSteps names texts (expressions items) ts last
      ends : Front (kind.Symbol end) last y.1
      within : heights (expressions items) ≤ h

    more_steps_sound : (n : ℕ) (end : Symbol) (before : List Expression) (ts : List Token) → IfSome (more_steps_at h p n end before ts) (StepItems end before ts)
    unfolding more_steps_at
    more_steps_sound zero end before ts = tt
    more_steps_sound (suc n) end before ts =
        bind (p.expression 1 ts) _ (GoodExpression ts) (StepItems end before ts) (expression_sound ts)
        (λ x g. choose (is_step x.0) _ _ (λ o. IfSome o (StepItems end before ts))
        (λ s. either (behind symbol.Comma x.1) _ _ (Front (kind.Symbol symbol.Comma) x.1) (λ o. IfSome o (StepItems end before ts)) (behind_front (kind.Symbol symbol.Comma) x.1)
        (λ mid k. weaken _ (StepItems end (before ++ x.0 ∷ []) mid) (StepItems end before ts) (more_steps_sound n end (before ++ x.0 ∷ []) mid)
        (λ y v. record {
          items = x.0 ∷ v.items;
          last = v.last;
          whole = v.whole ∙ ap expressions (append_assoc before (x.0 ∷ []) v.items);
          spelled = step_then s g.spelled k v.spelled;
          ends = v.ends;
          within = let a = g.within in let b = v.within in omega arith;
        }))
        (bind (behind end x.1) _ (Front (kind.Symbol end) x.1) (StepItems end before ts) (behind_front (kind.Symbol end) x.1)
        (λ rest c. record { items = x.0 ∷ []; last = x.1; whole = refl; spelled = last_step s g.spelled; ends = c; within = let a = g.within in omega arith })))
        (λ _. tt))

    abbrev pub StepsBefore : Symbol → List Token → Expressions × List Token → Type 0
    StepsBefore end = ReadBefore (SpellsMaybeSteps names texts) heights end h

    pub steps_before_sound : (end : Symbol) (ts : List Token) → IfSome (steps_before_at h p end ts) (StepsBefore end ts)
    unfolding steps_before_at
    steps_before_sound end ts =
        either (behind end ts) _ _ (Front (kind.Symbol end) ts) (λ o. IfSome o (StepsBefore end ts)) (behind_front (kind.Symbol end) ts)
        (λ rest c. record { last = ts; spelled = no_steps; ends = c; within = omega arith })
        (weaken _ (StepItems end [] ts) (StepsBefore end ts) (more_steps_sound (length ts) end [] ts)
        (λ y v. record { last = v.last; spelled = rw v.whole (some_steps v.spelled); ends = v.ends; within = rw v.whole v.within }))

    -- ---- labels and groups

    abbrev GoodLabel : List Token → LabelTree × List Token → Type 0
    GoodLabel = IsRead IsLabel label_height any h

    label_sound : (ts : List Token) → IfSome (switch_label_at h p ts) (GoodLabel ts)
    unfolding switch_label_at
    label_sound ts =
        either (behind_word word.Default ts) _ _ (Front (kind.Keyword word.Default) ts) (λ o. IfSome o (GoodLabel ts)) (behind_front (kind.Keyword word.Default) ts)
        (λ end w. bind (behind symbol.Colon end) _ (Front (kind.Symbol symbol.Colon) end) (GoodLabel ts) (behind_front (kind.Symbol symbol.Colon) end)
        (λ rest k. record { spelled = default_by w k; fits = tt; within = omega arith }))
        (bind (behind_word word.Case ts >>= p.expression 1) _ (λ x. (mid : List Token) × Front (kind.Keyword word.Case) ts mid × GoodExpression mid x) (GoodLabel ts)
        (bind (behind_word word.Case ts) (p.expression 1) (Front (kind.Keyword word.Case) ts) (λ x. (mid : List Token) × Front (kind.Keyword word.Case) ts mid × GoodExpression mid x) (behind_front (kind.Keyword word.Case) ts)
        (λ mid w. weaken (p.expression 1 mid) (GoodExpression mid) _ (expression_sound mid) (λ x g. (mid, w, g))))
        (λ x g. bind (behind symbol.Colon x.1) _ (Front (kind.Symbol symbol.Colon) x.1) (GoodLabel ts) (behind_front (kind.Symbol symbol.Colon) x.1)
        (λ rest k. record { spelled = case_by g.1 g.2.spelled k; fits = tt; within = g.2.within })))

    -- labels, and behind them none
    abbrev AllLabels : Labels → List Token → List Token → Type 0
    AllLabels ls ts rest = SpellsLabels names texts ls ts rest × (begins_label rest ≡ false)

    abbrev LabelItems : List LabelTree → List Token → Labels × List Token → Type 0
    LabelItems = Items labels AllLabels labels_height h

    label_and : (l : LabelTree) (ls : List LabelTree) → label_height l ≤ h → labels_height (labels ls) ≤ h → labels_height (labels (l ∷ ls)) ≤ h
    label_and (case_label e) ls a b = omega arith
    label_and (default_label s) ls a b = b

    labels_sound : (n : ℕ) (before : List LabelTree) (ts : List Token) → IfSome (labels_at h p n before ts) (LabelItems before ts)
    unfolding labels_at
    labels_sound zero before ts = tt
    labels_sound (suc n) before ts =
        bind (switch_label_at h p ts) _ (GoodLabel ts) (LabelItems before ts) (label_sound ts)
        (λ x g. choose (begins_label x.1) _ _ (λ o. IfSome o (LabelItems before ts))
        (λ _. weaken _ (LabelItems (before ++ x.0 ∷ []) x.1) (LabelItems before ts) (labels_sound n (before ++ x.0 ∷ []) x.1)
        (λ y v. record {
          items = x.0 ∷ v.items;
          whole = v.whole ∙ ap labels (append_assoc before (x.0 ∷ []) v.items);
          spelled = (label_then v.items g.spelled v.spelled.0, v.spelled.1);
          within = label_and x.0 v.items g.within v.within;
        }))
        (λ f. record { items = x.0 ∷ []; whole = refl; spelled = (label_alone g.spelled, f); within = label_and x.0 [] g.within (omega arith) }))

    -- statements up to a label or a brace
    abbrev AllStatements : Statements → List Token → List Token → Type 0
    AllStatements bs ts rest = MaybeStatements bs ts rest × ((begins_label rest || is_symbol symbol.CloseBrace rest) ≡ true)

    abbrev GroupItems : List Statement → List Token → Statements × List Token → Type 0
    GroupItems = Items statements AllStatements statements_height h

    group_statements_sound : (n : ℕ) (before : List Statement) (ts : List Token) → IfSome (group_statements_at h p n before ts) (GroupItems before ts)
    unfolding group_statements_at
    group_statements_sound zero before ts = tt
    group_statements_sound (suc n) before ts =
        choose (begins_label ts || is_symbol symbol.CloseBrace ts) _ _ (λ o. IfSome o (GroupItems before ts))
        (λ e. record { items = []; whole = ap statements (sym (append-nil before)); spelled = (no_statement, e); within = omega arith })
        (λ _. bind (p.block_statement ts) _ (GoodStatement ts) (GroupItems before ts) (below.block_statement.sound ts)
        (λ x g. weaken _ (GroupItems (before ++ x.0 ∷ []) x.1) (GroupItems before ts) (group_statements_sound n (before ++ x.0 ∷ []) x.1)
        (λ y v. record {
          items = x.0 ∷ v.items;
          whole = v.whole ∙ ap statements (append_assoc before (x.0 ∷ []) v.items);
          spelled = (statement_more g.spelled v.spelled.0, v.spelled.1);
          within = let a = g.within in let b = v.within in omega arith;
        })))

    brace_of : (a b : Bool) → a ≡ false → (a || b) ≡ true → b ≡ true
    brace_of true b e f = absurd cc
    brace_of false b e f = f

    group_by : {ls : Labels} {bs : Statements} {ts mid rest : List Token} → SpellsLabels names texts ls ts mid → begins_label mid ≡ false → MaybeStatements bs mid rest → (begins_label rest || is_symbol symbol.CloseBrace rest) ≡ true →
        IsGroup (record { labels = ls; statements = bs }) ts rest
    group_by {rest = rest} l f no_statement e = is_last l (front_of (kind.Symbol symbol.CloseBrace) rest (brace_of (begins_label rest) (is_symbol symbol.CloseBrace rest) f e)).1
    group_by l f (some_statements bs) e = is_group l bs

    abbrev GoodGroup : List Token → GroupTree × List Token → Type 0
    GoodGroup = IsRead IsGroup group_height any h

    group_sound : (ts : List Token) → IfSome (group_at h p ts) (GoodGroup ts)
    unfolding group_at
    group_sound ts =
        bind (labels_at h p (length ts) [] ts) _ (LabelItems [] ts) (GoodGroup ts) (labels_sound (length ts) [] ts)
        (λ ls l. bind (group_statements_at h p (length ls.1) [] ls.1) _ (GroupItems [] ls.1) (GoodGroup ts) (group_statements_sound (length ls.1) [] ls.1)
        (λ bs b. record {
          spelled = rw (l.whole, b.whole) (group_by l.spelled.0 l.spelled.1 b.spelled.0 b.spelled.1);
          fits = tt;
          within = rw (l.whole, b.whole) (let c = l.within in let d = b.within in omega arith);
        }))

    abbrev GroupsRead : List GroupTree → List Token → Groups × Span × List Token → Type 0
    GroupsRead = ClosedItems groups (SpellsGroups names texts) groups_height h

    groups_close : (n : ℕ) (before : List GroupTree) {ts rest : List Token} → Front (kind.Symbol symbol.CloseBrace) ts rest → IfSome (groups_at h p n before ts) (λ y. y ≡ (groups before, first_span ts, rest))
    unfolding groups_at
    groups_close zero before c = tt
    groups_close (suc n) before c = rw (behind_of c) refl

    group_then : (n : ℕ) (before : List GroupTree) {g : GroupTree} {ts mid : List Token} → IsGroup g ts mid → group_height g ≤ h → IfSome (groups_at h p n (before ++ g ∷ []) mid) (GroupsRead (before ++ g ∷ []) mid) →
        IfSome (groups_at h p n (before ++ g ∷ []) mid) (GroupsRead before ts)
    group_then n before {g} {ts} {mid} (is_group l b) low r =
        weaken _ (GroupsRead (before ++ g ∷ []) mid) (GroupsRead before ts) r
        (λ y v. record {
          items = g ∷ v.items;
          whole = v.whole ∙ ap groups (append_assoc before (g ∷ []) v.items);
          spelled = more_groups l b v.spelled;
          within = let a = v.within in omega arith;
        })
    group_then n before {g} {ts} {mid} (is_last {rest = rest} l c) low r =
        weaken _ (λ y. y ≡ (groups (before ++ g ∷ []), first_span mid, rest)) (GroupsRead before ts) (groups_close n (before ++ g ∷ []) c)
        (λ y w. record { items = g ∷ []; whole = ap (λ (z : Groups × Span × List Token). z.0) w; spelled = rw w (last_by l c); within = low })

    pub groups_sound : (n : ℕ) (before : List GroupTree) (ts : List Token) → IfSome (groups_at h p n before ts) (GroupsRead before ts)
    unfolding groups_at
    groups_sound zero before ts = tt
    groups_sound (suc n) before ts =
        either (behind symbol.CloseBrace ts) _ _ (Front (kind.Symbol symbol.CloseBrace) ts) (λ o. IfSome o (GroupsRead before ts)) (behind_front (kind.Symbol symbol.CloseBrace) ts)
        (λ rest c. record { items = []; whole = ap groups (sym (append-nil before)); spelled = no_groups_by c; within = omega arith })
        (bind (group_at h p ts) _ (GoodGroup ts) (GroupsRead before ts) (group_sound ts)
        (λ x g. group_then n before g.spelled g.within (groups_sound n (before ++ x.0 ∷ []) x.1)))

    -- ---- catches

    abbrev pub GoodBlock : List Token → BlockTree × List Token → Type 0
    GoodBlock = IsRead (SpellsBlockTree names texts) block_tree_height any h

    abbrev pub GoodCatch : List Token → CatchTree × List Token → Type 0
    GoodCatch = IsRead IsCatch catch_height any h

    pub catch_sound : (ts : List Token) → IfSome (catch_at h p ts) (GoodCatch ts)
    unfolding catch_at
    catch_sound ts =
        bind (behind_word word.Catch ts >>= behind symbol.OpenParen) _ (λ inside. (a : List Token) × Front (kind.Keyword word.Catch) ts a × Front (kind.Symbol symbol.OpenParen) a inside) (GoodCatch ts)
        (bind (behind_word word.Catch ts) (behind symbol.OpenParen) (Front (kind.Keyword word.Catch) ts) (λ inside. (a : List Token) × Front (kind.Keyword word.Catch) ts a × Front (kind.Symbol symbol.OpenParen) a inside) (behind_front (kind.Keyword word.Catch) ts)
        (λ a w. weaken (behind symbol.OpenParen a) (Front (kind.Symbol symbol.OpenParen) a) _ (behind_front (kind.Symbol symbol.OpenParen) a) (λ inside o. (a, w, o))))
        (λ inside b. bind (name_at (final_at inside).1) _ (λ n. SpellsName n.0 (final_at inside).1 n.1) (GoodCatch ts) (name_sound (final_at inside).1)
        (λ n d. bind (identifier_at n.1) _ (FrontName n.1) (GoodCatch ts) (identifier_front n.1)
        (λ x i. bind (behind symbol.CloseParen x.1 >>= p.block) _ (λ k. (a : List Token) × Front (kind.Symbol symbol.CloseParen) x.1 a × GoodBlock a k) (GoodCatch ts)
        (bind (behind symbol.CloseParen x.1) p.block (Front (kind.Symbol symbol.CloseParen) x.1) (λ k. (a : List Token) × Front (kind.Symbol symbol.CloseParen) x.1 a × GoodBlock a k) (behind_front (kind.Symbol symbol.CloseParen) x.1)
        (λ a c. weaken (p.block a) (GoodBlock a) _ (below.block.sound a) (λ k g. (a, c, g))))
        (λ k g. record { spelled = catch_by b.1 b.2 (final_sound inside) d i g.1 g.2.spelled; fits = tt; within = g.2.within }))))

    pub record CatchItems (before : List CatchTree) (s : Span) (ts : List Token) (y : Catches × Span × List Token) : Type 0 where
      pub items : List CatchTree
      pub whole : y.0 ≡ catches (before ++ items)
      pub spelled : SpellsCatches names texts (catches items) s y.1 ts y.2
      pub within : catches_height (catches items) ≤ h

    pub catches_sound : (n : ℕ) (before : List CatchTree) (s : Span) (ts : List Token) → CatchItems before s ts (catches_at h p n before s ts)
    unfolding catches_at
    catches_sound zero before s ts = record { items = []; whole = ap catches (sym (append-nil before)); spelled = no_catches; within = omega arith }
    catches_sound (suc n) before s ts =
        either (catch_at h p ts) _ _ (GoodCatch ts) (CatchItems before s ts) (catch_sound ts)
        (λ x g. let v = catches_sound n (before ++ x.0 ∷ []) x.0.block.closing x.1 in record {
          items = x.0 ∷ v.items;
          whole = v.whole ∙ ap catches (append_assoc before (x.0 ∷ []) v.items);
          spelled = catch_then g.spelled v.spelled;
          within = let a = g.within in let b = v.within in omega arith;
        })
        (record { items = []; whole = ap catches (sym (append-nil before)); spelled = no_catches; within = omega arith })
