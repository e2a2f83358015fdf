-- What stands inside brackets is read where it is spelled: arguments, lengths, choices.
use Rattle.std.proofs.Common.{◌≡◌, ℕ, zero, suc, ◌≤◌, List, [], ◌∷◌, ◌++◌, length, Option, Some, None, IfSome, refl, ap, ◌∙◌, arith, append_assoc}
use Rattle.je_base.specs.declared.span.Span.{Span}
use Rattle.je_token.specs.declared.symbol.Symbol.TheVariants as symbol
use Rattle.je_token.specs.declared.token.Token.{Token}
use Rattle.je_token.specs.declared.token.TokenKind.{TokenKind}
use Rattle.je_token.specs.declared.token.TokenKind.TheVariants as kind
use Rattle.je_ast.specs.Trees.{Expression, Expressions, Member, Members}
use Rattle.je_ast.specs.Trees as tree
use Rattle.je_ast.specs.Height.{height, heights}
use Rattle.je_grammar.specs.Tokens.{it_is, IsSymbol}
use Rattle.je_grammar.specs.Grammar.{Spells}
use Rattle.je_grammar.specs.Grammar.{SpellsArguments, no_arguments, some_arguments, SpellsList, last_expression, more_expressions}
use Rattle.parse_laws.specs.way.Tokens.{behind_kind}
use Rattle.parse_laws.specs.way.Below.{Below}
use Rattle.parse_laws.specs.way.Lists.{expressions}
use Rattle.parse_laws.specs.way.Readers.{IsBelow, itself, longer, reach}
use Rattle.parse_laws.specs.way.Expressions.{Closed, more_arguments_at, arguments_at, length_at}
use Rattle.expression_laws.specs.way.Parts.{ReadTypes, ReadBodies}
use Rattle.je_grammar.proofs.AtLeastOne.{expressions_spell_some}
use Rattle.parse_laws.proofs.Fronts.{Front, front, behind_front}
use Rattle.expression_laws.proofs.Begins.{lowest, close_paren_begins_none, close_bracket_begins_none}
use Rattle.expression_laws.proofs.Primaries.{length_sound}

not_in_front : {k : TokenKind} {ts : List Token} (o : Option (List Token)) → IfSome o (Front k ts) → ((rest : List Token) → ¬ Front k ts rest) → o ≡ None
not_in_front (Some rest) f n = absurd (n rest f)
not_in_front None f n = refl

-- no token of this kind stands first
pub not_front : (k : TokenKind) (ts : List Token) → ((rest : List Token) → ¬ Front k ts rest) → behind_kind k ts ≡ None
not_front k ts n = not_in_front (behind_kind k ts) (behind_front k ts) n

nothing_of : {A : Type 0} {P : A → Type 0} (o : Option A) → IfSome o P → ((x : A) → ¬ P x) → o ≡ None
nothing_of (Some x) f n = absurd (n x f)
nothing_of None f n = refl

-- the list of these expressions
abbrev pub items_of : Expressions → List Expression
items_of tree.no_expressions = []
items_of (tree.more_expressions e es) = e ∷ items_of es

pub same_items : (es : Expressions) → expressions (items_of es) ≡ es
same_items tree.no_expressions = refl
same_items (tree.more_expressions e es) = ap (tree.more_expressions e) (same_items es)

same_behind : {k l : TokenKind} {ts a b rest : List Token} → Front k ts a → Front k ts b → Front l b rest → Front l a rest
same_behind (front i) (front j) f = f

module _ (names texts : List (List ℕ)) where
  list_begins : {es : Expressions} {ts rest behind_it : List Token} → SpellsList names texts es ts rest → ¬ Front (kind.Symbol symbol.CloseParen) ts behind_it
  list_begins (last_expression d) f = close_paren_begins_none names texts f d
  list_begins (more_expressions d k l) f = close_paren_begins_none names texts f d

  module _ (h : ℕ) (p : Below) (body : List Token → Closed Members) (below : IsBelow names texts h p) (bodies : ReadBodies names texts h body) (types : ReadTypes h) where
    -- an expression before a token that goes on with none
    pub whole : {e : Expression} {ts rest : List Token} → Spells names texts e ts rest → height e ≤ h → reach rest ≡ 0 → p.expression 1 ts ≡ Some (e, rest)
    whole {e} {ts} {rest} d low stops = elim ((below.expression 1 (omega arith) (omega arith)).exact e ts rest d (lowest names texts d) low) [
      | itself e ↦ e
      | longer e lt goes ↦ absurd (omega arith)
    ]

    more_arguments_exact : (n : ℕ) (before : List Expression) {es : Expressions} {ts rest : List Token} {c : Token} → SpellsList names texts es ts (c ∷ rest) → IsSymbol symbol.CloseParen c → heights es ≤ h → length ts ≤ n →
        more_arguments_at texts h p body n before ts ≡ Some (expressions (before ++ items_of es), c.span, rest)
    unfolding more_arguments_at
    more_arguments_exact zero before (last_expression d) c low le = absurd (let a = expressions_spell_some names texts _ _ _ d in omega arith)
    more_arguments_exact zero before (more_expressions d k l) c low le = absurd (let a = expressions_spell_some names texts _ _ _ d in omega arith)
    more_arguments_exact (suc n) before (last_expression d) it_is low le = rw (whole d (omega arith) refl) refl
    more_arguments_exact (suc n) before {rest = rest} {c = c} (more_expressions {e} {es} d it_is l) i low le =
        rw (whole d (omega arith) refl)
        (more_arguments_exact n (before ++ e ∷ []) l i (omega arith) (let a = expressions_spell_some names texts _ _ _ d in omega arith)
        ∙ ap (λ (xs : List Expression). Some (expressions xs, c.span, rest)) (append_assoc before (e ∷ []) (items_of es)))

    pub arguments_exact : {es : Expressions} {c : Span} {ts rest : List Token} → SpellsArguments names texts es c ts rest → heights es ≤ h → arguments_at texts h p body ts ≡ Some (es, c, rest)
    unfolding arguments_at
    arguments_exact (no_arguments it_is it_is) low = refl
    arguments_exact {rest = rest} (some_arguments {c = c} {es} {ts} it_is l i) low =
        rw (not_front (kind.Symbol symbol.CloseParen) ts (λ r f. list_begins l f))
        (more_arguments_exact (length ts) [] l i low (omega arith) ∙ ap (λ (xs : Expressions). Some (xs, c.span, rest)) (same_items es))

    pub length_exact : {e : Expression} {o c : Token} {ts rest : List Token} → IsSymbol symbol.OpenBracket o → Spells names texts e ts (c ∷ rest) → IsSymbol symbol.CloseBracket c → height e ≤ h →
        length_at texts h p body (o ∷ ts) ≡ Some (e, c.span, rest)
    unfolding length_at
    length_exact it_is d it_is low = rw (whole d low refl) refl

    -- a pair of brackets is no length
    pub no_length : {ts a b : List Token} → Front (kind.Symbol symbol.OpenBracket) ts a → Front (kind.Symbol symbol.CloseBracket) a b → length_at texts h p body ts ≡ None
    no_length {ts} o c = nothing_of (length_at texts h p body ts) (length_sound names texts h p body below bodies types ts) (λ x g. close_bracket_begins_none names texts (same_behind g.opens o c) g.spelled)
