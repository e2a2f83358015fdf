-- A file is read from left to right.
use Rattle.std.proofs.Common.{◌≡◌, ℕ, ◌+◌, ◌<◌, ◌≤◌, List, [], ◌∷◌, ◌++◌, length, take, drop, Option, Some, None, unwrap_or, sym, ◌∙◌, ap, refl, subst, append_assoc, append-nil, length-append, length-drop, arith}
use Rattle.std.specs.Option.{IfSome}
use Rattle.je_base.specs.Names.{interned, interned_by, place_of}
use Rattle.je_decode.specs.declared.character.Character.{Character}
use Rattle.je_token.specs.declared.token.Token.{Token}
use Rattle.je_lexer.specs.Elements.{Element, IsNext, BeginsNone}
use Rattle.je_lexer.specs.Faults.{IsWrong}
use Rattle.je_lexer.specs.Lexing.{Lexes, Fails}
use Rattle.je_lexer.specs.Tokens.{Gives}
use Rattle.je_lexer.specs.declared.cutting.Cut.{Cut}
use Rattle.je_lexer.specs.declared.cutting.Cut.TheVariants as cut
use Rattle.je_lexer.specs.declared.fault.FaultKind.{FaultKind}
use Rattle.je_lexer.specs.declared.fault.LexFault.{LexFault}
use Rattle.je_lexer.specs.declared.fault.LexFault.TheVariants as refusal
use Rattle.je_lexer.specs.declared.file_tokens.Tokens.{Tokens}
use Rattle.je_lexer.specs.way.Cutting.{cut_at, cut_len, front_of, IsOf, IsBad}
use Rattle.je_lexer.specs.way.Reading.{Stepped, IsStep, IsNoStep, IsNoWhole}
use Rattle.je_lexer.specs.way.Steps.{IsToken, IsNoPiece}
use Rattle.je_lexer.proofs.Next.{next_from_cut, none_from_cut, wrong_from_cut}

-- ---- one step

-- an element has its characters
of_len : (k : Cut) (front : List Character) (e : Element) → IsOf k front e → (m : ℕ) × (cut_len k ≡ Some m)
of_len (cut.Blank n) front e h = (n, refl)
of_len (cut.Word n) front e h = (n, refl)
of_len (cut.Symbol s n) front e h = (n, refl)
of_len (cut.Number i n) front e h = (n, refl)
of_len (cut.Literal n) front e h = (n, refl)
of_len (cut.Fault kind start end) front e h = elim h [ ]

-- what is cut at a text, with as many characters as it has
record IsTaken (text : List Character) (n : ℕ) (e : Element) : Type 0 where
  some : 0 < n
  within : n ≤ length text
  next : IsNext text e (take n text) (drop n text)

taken : (file_end n : ℕ) (c : Character) (cs text : List Character) (k : Cut) (e : Element) → text ≡ c ∷ cs → k ≡ cut_at file_end c cs →
    IfSome (cut_len k) (λ m. (0 < m) × (m ≤ length text)) → n ≡ unwrap_or (cut_len k) 0 → IsOf k (take n text) e → IsTaken text n e
taken file_end n c cs text k e parts is within len of =
    let m = of_len k _ e of in
    let same : n ≡ m.0 = len ∙ ap (λ o. unwrap_or o 0) m.1 in
    let fits : (0 < m.0) × (m.0 ≤ length text) = rw m.1 at within in
    let cut_to : cut_len (cut_at file_end c cs) ≡ Some n = ap cut_len (sym is) ∙ m.1 ∙ ap (λ x. Some x) (sym same) in
    let again : IsOf (cut_at file_end c cs) (take n (c ∷ cs)) e = subst (λ t. IsOf (cut_at file_end c cs) (take n t) e) parts (subst (λ d. IsOf d (take n text) e) is of) in
    let next = next_from_cut file_end c cs n e cut_to again in
    record { some = omega arith; within = omega arith; next = subst (λ t. IsNext t e (take n t) (drop n t)) (sym parts) next }

pub token_step : (file file_end n : ℕ) (c : Character) (cs text : List Character) (before after : Tokens) (t : Token) (k : Cut) → text ≡ c ∷ cs → k ≡ cut_at file_end c cs →
    IfSome (cut_len k) (λ m. (0 < m) × (m ≤ length text)) → n ≡ unwrap_or (cut_len k) 0 →
    IsToken file k (take n text) before.names before.texts.items after.names after.texts.items t →
    after.list.items ≡ before.list.items ++ t ∷ [] → IsStep file text before after n
token_step file file_end n c cs text before after t k parts is within len h kept =
    let h' = taken file_end n c cs text k h.element parts is within len h.is in (h'.some, h'.within, Stepped.token h'.next h.gives kept)

pub blank_step : (file file_end n : ℕ) (c : Character) (cs text : List Character) (before after : Tokens) (k : Cut) → text ≡ c ∷ cs → k ≡ cut_at file_end c cs →
    IfSome (cut_len k) (λ m. (0 < m) × (m ≤ length text)) → n ≡ unwrap_or (cut_len k) 0 → IsOf k (take n text) Element.Blank →
    after.list.items ≡ before.list.items → after.names ≡ before.names → after.texts.items ≡ before.texts.items → IsStep file text before after n
blank_step file file_end n c cs text before after k parts is within len of list names texts =
    let h = taken file_end n c cs text k Element.Blank parts is within len of in (h.some, h.within, Stepped.blank h.next list names texts)

bad_front : (n : ℕ) (text : List Character) (k : Cut) (kind : FaultKind) (start end : ℕ) → n ≡ unwrap_or (cut_len k) 0 → IsBad k (take n text) kind start end →
    IsBad k (front_of (cut_len k) text) kind start end
bad_front n text (cut.Blank m) kind start end len h = elim h [ ]
bad_front n text (cut.Word m) kind start end len h = elim h [ ]
bad_front n text (cut.Symbol s m) kind start end len h = elim h [ ]
bad_front n text (cut.Number i m) kind start end len h = elim h [ ]
bad_front n text (cut.Literal m) kind start end len h = subst (λ i. IsBad (cut.Literal m) (take i text) kind start end) len h
bad_front n text (cut.Fault k from to) kind start end len h = uncut k from to kind start end h
  where
    uncut : (k : FaultKind) (from to : ℕ) (kind : FaultKind) (start end : ℕ) → IsBad (cut.Fault k from to) (take n text) kind start end → IsBad (cut.Fault k from to) [] kind start end
    uncut k from to _ _ _ IsBad.uncut = IsBad.uncut

pub fault_step : (file file_end n : ℕ) (c : Character) (cs text : List Character) (k : Cut) (e : LexFault) → text ≡ c ∷ cs → k ≡ cut_at file_end c cs →
    n ≡ unwrap_or (cut_len k) 0 → IsNoPiece file k (take n text) e → IsNoStep file file_end text e
fault_step file file_end n c cs text k refusal.Memory parts is len h = tt
fault_step file file_end n c cs text k (refusal.At kind span) parts is len h =
    let bad = bad_front n text k kind span.start span.end len h.1 in
    let P : Cut → Type 0 = λ d. IsBad d (front_of (cut_len d) text) kind span.start span.end in
    let Q : List Character → Type 0 = λ t. IsBad (cut_at file_end c cs) (front_of (cut_len (cut_at file_end c cs)) t) kind span.start span.end in
    let whole = subst Q parts (subst P is bad) in
    let N : List Character → Type 0 = λ t. BeginsNone t in
    let W : List Character → Type 0 = λ t. IsWrong file_end t kind span.start span.end in
    (h.0, subst N (sym parts) (none_from_cut file_end c cs kind span.start span.end whole), subst W (sym parts) (wrong_from_cut file_end c cs kind span.start span.end whole))

-- ---- the whole

-- what the rest comes to, the whole comes to
pub record IsUnderway (file file_end : ℕ) (characters rest : List Character) (list : List Token) (names texts : List (List ℕ)) : Type 0 where
  pub gives : (out : List Token) (names1 texts1 : List (List ℕ)) → Lexes file names texts rest out names1 texts1 → Lexes file ([] ∷ []) [] characters (list ++ out) names1 texts1
  pub fails : (kind : FaultKind) (start end : ℕ) → Fails file_end rest kind start end → Fails file_end characters kind start end
  pub few : length list + length rest ≤ length characters
  pub named : length names ≤ length list + 1

interned_by-le : (place : Option ℕ) (names : List (List ℕ)) (text : List ℕ) → length (interned_by place names text) ≤ length names + 1
interned_by-le None names text = omega (arith, length-append names (text ∷ []))
interned_by-le (Some n) names text = omega arith

interned-le : (names : List (List ℕ)) (text : List ℕ) → length (interned names text) ≤ length names + 1
interned-le names text = interned_by-le (place_of names text) names text

gives_named : (file : ℕ) (names texts names1 texts1 : List (List ℕ)) (e : Element) (front : List Character) (t : Token) → Gives file names texts e front t names1 texts1 →
    length names1 ≤ length names + 1
gives_named file names texts names1 texts1 e front t (Gives.word found) = interned-le names _
gives_named file names texts names1 texts1 e front t Gives.sign = omega arith
gives_named file names texts names1 texts1 e front t Gives.integer = omega arith
gives_named file names texts names1 texts1 e front t Gives.char_literal = omega arith
gives_named file names texts names1 texts1 e front t Gives.text_literal = omega arith

-- a step goes on
going : (file file_end n : ℕ) (characters rest : List Character) (before after : Tokens) →
    IsUnderway file file_end characters rest before.list.items before.names before.texts.items → 0 < n → n ≤ length rest → Stepped file rest n before after →
    IsUnderway file file_end characters (drop n rest) after.list.items after.names after.texts.items
going file file_end n characters rest before after under some within (Stepped.blank next list names texts) =
    let sizes = under.few in let left = length-drop n rest in
    record {
      gives = λ out names1 texts1 h.
          let rest_of : Lexes file before.names before.texts.items (drop n rest) out names1 texts1 = rw (← names, ← texts) h in
          rw list (under.gives out names1 texts1 (Lexes.blank next rest_of));
      fails = λ kind start end h. under.fails kind start end (Fails.later next h);
      few = rw list (omega arith);
      named = rw (list, names) under.named;
    }
going file file_end n characters rest before after under some within (Stepped.token {t = t} next given list) =
    let sizes = under.few in let left = length-drop n rest in
    let more = gives_named _ _ _ _ _ _ _ _ given in let named = under.named in
    let pushed = length-append before.list.items (t ∷ []) in
    record {
      gives = λ out names1 texts1 h.
          let P : List Token → Type 0 = λ xs. Lexes file ([] ∷ []) [] characters xs names1 texts1 in
          rw list (subst P (sym (append_assoc before.list.items (t ∷ []) out)) (under.gives (t ∷ out) names1 texts1 (Lexes.token next given h)));
      fails = λ kind start end h. under.fails kind start end (Fails.later next h);
      few = rw list (omega arith);
      named = rw list (omega arith);
    }

pub underway_more : (file file_end n : ℕ) (characters rest : List Character) (before after : Tokens) →
    IsUnderway file file_end characters rest before.list.items before.names before.texts.items → IsStep file rest before after n →
    IsUnderway file file_end characters (drop n rest) after.list.items after.names after.texts.items
underway_more file file_end n characters rest before after under h = going file file_end n characters rest before after under h.0 h.1 h.2

pub underway_fails : (file file_end : ℕ) (characters rest : List Character) (list : List Token) (names texts : List (List ℕ)) (e : LexFault) →
    IsUnderway file file_end characters rest list names texts → IsNoStep file file_end rest e → IsNoWhole file file_end characters e
underway_fails file file_end characters rest list names texts refusal.Memory under h = tt
underway_fails file file_end characters rest list names texts (refusal.At kind span) under h =
    (h.0, under.fails kind span.start span.end (Fails.here h.1 h.2))

pub underway_first : (file file_end : ℕ) (characters : List Character) (list : List Token) (names texts : List (List ℕ)) → list ≡ [] → names ≡ [] ∷ [] → texts ≡ [] →
    IsUnderway file file_end characters characters list names texts
underway_first file file_end characters list names texts a b c =
    rw (a, b, c) (record { gives = λ out names1 texts1 h. h; fails = λ kind start end h. h; few = omega arith; named = omega arith })

pub underway_done : (file file_end : ℕ) (characters rest : List Character) (list : List Token) (names texts : List (List ℕ)) →
    IsUnderway file file_end characters rest list names texts → length rest ≡ 0 → Lexes file ([] ∷ []) [] characters list names texts
underway_done file file_end characters [] list names texts under e =
    let P : List Token → Type 0 = λ out. Lexes file ([] ∷ []) [] characters out names texts in
    subst P (append-nil list) (under.gives [] names texts Lexes.at_end)
underway_done file file_end characters (c ∷ cs) list names texts under e = absurd (omega arith)
