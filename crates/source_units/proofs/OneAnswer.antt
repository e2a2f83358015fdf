-- Files have one list of units at most, no fault where they have one, and one first fault.
use Rattle.std.proofs.Common.{◌≡◌, ℕ, suc, List, [], ◌∷◌, ◌++◌, Some, refl, sym, ap, subst, ◌∙◌}
use Rattle.std.specs.Prelude.{drop, length}
use Rattle.std.specs.List.{AllByRecursion, AllZip}
use Rattle.std.proofs.lemmas.List.Elements.{recursion_from_All}
use Rattle.je_base.specs.Names.{number_of}
use Rattle.je_base.specs.declared.span.NameId.{NameId}
use Rattle.je_base.specs.declared.span.Span.{Span}
use Rattle.je_token.specs.declared.token.Token.{Token}
use Rattle.je_ast.specs.Trees.{CompilationUnit}
use Rattle.je_ast.specs.Renumbering.{renumbered}
use Rattle.je_lexer.specs.Lexing.{HasFault}
use Rattle.je_lexer.specs.declared.fault.FaultKind.{FaultKind}
use Rattle.je_lexer.proofs.OneAnswer.{apart, one_fault, one_tokens}
use Rattle.host_text.specs.declared.finding.Finding.{Finding}
use Rattle.host_text.specs.declared.rules.Rule.{Rule}
use Rattle.host_text.specs.declared.rules.Rule.TheVariants as rule
use Rattle.je_grammar.specs.Place.{IsSyntaxPlace}
use Rattle.je_grammar.specs.Tokens.{first_span}
use Rattle.parse_expr.specs.Answers.{max_height}
use Rattle.place_laws.proofs.Follows.{place_once}
use Rattle.unit_laws.proofs.Files.{unit_once}
use Rattle.source_units.specs.Faults.{HasUnit, IsFirstFault, IsFirstTokenFault, IsSyntaxFault}
use Rattle.source_units.specs.Files.{FileTokens, AreTokens, IsUnit}
use Rattle.source_units.specs.Names.{AreNumbers}
use Rattle.source_units.specs.Units.{IsUnitAmong, AreRead, AreUnitsOf}

abbrev made : List Token → List (List ℕ) → List (List ℕ) → FileTokens
made list names texts = record { list = list; names = names; texts = texts }

same_file : (f g : FileTokens) → f.list ≡ g.list → f.names ≡ g.names → f.texts ≡ g.texts → f ≡ g
same_file f g lists names texts =
    ap (λ l. made l f.names f.texts) lists ∙ ap (λ n. made g.list n f.texts) names ∙ ap (λ t. made g.list g.names t) texts

same_more : {A : Type 0} (x y : A) (xs ys : List A) → x ≡ y → xs ≡ ys → x ∷ xs ≡ y ∷ ys
same_more x y xs ys first rest = ap (λ z. z ∷ xs) first ∙ ap (λ zs. y ∷ zs) rest

tokens_once : (n : ℕ) (files : List (List ℕ)) (fs gs : List FileTokens) → AreTokens n files fs → AreTokens n files gs → fs ≡ gs
tokens_once n _ _ _ AreTokens.no_files AreTokens.no_files = refl
tokens_once n _ _ _ (AreTokens.more_files {bytes = bytes} {files = files} {f = f} {fs = fs} a more) (AreTokens.more_files {f = g} {fs = gs} b others) =
    let one = one_tokens n bytes f.list g.list f.names f.texts g.names g.texts a b in
    same_more f g fs gs (same_file f g one.0 one.1 one.2) (tokens_once (suc n) files fs gs more others)

numbers_once : (names texts : List (List ℕ)) (ks ls : List NameId) → AreNumbers names texts ks → AreNumbers names texts ls → ks ≡ ls
numbers_once names [] [] [] h k = refl
numbers_once names [] (x ∷ ks) ls h k = absurd h
numbers_once names [] [] (y ∷ ls) h k = absurd k
numbers_once names (t ∷ ts) [] ls h k = absurd h
numbers_once names (t ∷ ts) (x ∷ ks) [] h k = absurd k
numbers_once names (t ∷ ts) (x ∷ ks) (y ∷ ls) h k =
    let left : number_of names t ≡ Some x = h.0 in
    let right : number_of names t ≡ Some y = k.0 in
    let same : x ≡ y = cc in
    same_more x y ks ls same (numbers_once names ts ks ls h.1 k.1)

unit_among_once : (names : List (List ℕ)) (f : FileTokens) (u v : CompilationUnit) → IsUnitAmong names f u → IsUnitAmong names f v → u ≡ v
unit_among_once names f u v h k =
    let own = unit_once f.names f.texts h.own k.own f.list h.is_unit.spelled k.is_unit.spelled in
    let numbers = numbers_once names f.names h.numbers k.numbers h.numbered k.numbered in
    h.renumbered ∙ ap (λ o. renumbered h.numbers o) own ∙ ap (λ ns. renumbered ns k.own) numbers ∙ sym k.renumbered

units_once : (names : List (List ℕ)) (fs : List FileTokens) (us vs : List CompilationUnit) → AllZip (IsUnitAmong names) fs us → AllZip (IsUnitAmong names) fs vs → us ≡ vs
units_once names [] [] [] h k = refl
units_once names [] (u ∷ us) vs h k = absurd h
units_once names [] [] (v ∷ vs) h k = absurd k
units_once names (f ∷ fs) [] vs h k = absurd h
units_once names (f ∷ fs) (u ∷ us) [] h k = absurd k
units_once names (f ∷ fs) (u ∷ us) (v ∷ vs) h k = same_more u v us vs (unit_among_once names f u v h.0 k.0) (units_once names fs us vs h.1 k.1)

read_once : (fs : List FileTokens) (before names names1 : List (List ℕ)) (us vs : List CompilationUnit) → AreRead fs before us names → AreRead fs before vs names1 →
    (us ≡ vs) × (names ≡ names1)
read_once fs before names names1 us vs h k =
    let same : names ≡ names1 = h.names_are ∙ sym k.names_are in
    (units_once names fs us vs h.units_are (rw same k.units_are), same)

pub units_are_one : (files before : List (List ℕ)) (us vs : List CompilationUnit) (names names1 : List (List ℕ)) → AreUnitsOf files before us names → AreUnitsOf files before vs names1 →
    (us ≡ vs) × (names ≡ names1)
units_are_one files before us vs names names1 h k =
    let tokens = tokens_once 0 files h.tokens k.tokens h.lexed k.lexed in
    read_once h.tokens before names names1 us vs h.read (rw tokens k.read)

-- ---- what has units has no fault

token_fault_apart : (n : ℕ) (earlier : List (List ℕ)) (bytes : List ℕ) (later : List (List ℕ)) (fs : List FileTokens) (kind : FaultKind) (start end : ℕ) →
    AreTokens n (earlier ++ bytes ∷ later) fs → HasFault bytes kind start end → ⊥
token_fault_apart n [] bytes later _ kind start end (AreTokens.more_files {f = f} is more) worse = apart n bytes f.list f.names f.texts kind start end is worse
token_fault_apart n (b ∷ bs) bytes later _ kind start end (AreTokens.more_files {fs = fs} is more) worse = token_fault_apart (suc n) bs bytes later fs kind start end more worse

unit_at : (names : List (List ℕ)) (earlier : List FileTokens) (f : FileTokens) (later : List FileTokens) (us : List CompilationUnit) →
    AllZip (IsUnitAmong names) (earlier ++ f ∷ later) us → HasUnit f
unit_at names [] f later [] h = absurd h
unit_at names [] f later (u ∷ us) h = (h.0.own, h.0.is_unit)
unit_at names (e ∷ es) f later [] h = absurd h
unit_at names (e ∷ es) f later (u ∷ us) h = unit_at names es f later us h.1

pub units_or_fault : (files before : List (List ℕ)) (us : List CompilationUnit) (names : List (List ℕ)) (x : Finding) → AreUnitsOf files before us names →
    ¬ IsFirstFault files x
units_or_fault files before us names x h (IsFirstFault.of_tokens t) =
    token_fault_apart 0 t.earlier t.bytes t.later h.tokens t.fault.kind x.span.start x.span.end (subst (λ fs. AreTokens 0 fs h.tokens) t.parts h.lexed) t.fault.there
units_or_fault files before us names x h (IsFirstFault.of_syntax {fs = fs} lexed s) =
    let same : h.tokens ≡ s.earlier ++ s.file ∷ s.later = tokens_once 0 files h.tokens fs h.lexed lexed ∙ s.parts in
    let there = unit_at names s.earlier s.file s.later us (subst (λ ts. AllZip (IsUnitAmong names) ts us) same h.read.units_are) in
    s.fault.none there.0 there.1

-- ---- one first fault

abbrev span_made : ℕ → ℕ → ℕ → Span
span_made file start end = record { file = file; start = start; end = end }

same_span : (s t : Span) → s.file ≡ t.file → s.start ≡ t.start → s.end ≡ t.end → s ≡ t
same_span s t file start end =
    ap (λ n. span_made n s.start s.end) file ∙ ap (λ n. span_made t.file n s.end) start ∙ ap (λ n. span_made t.file t.start n) end

abbrev finding_made : Rule → Span → Finding
finding_made r s = record { rule = r; span = s }

same_finding : (x y : Finding) → x.rule ≡ y.rule → x.span ≡ y.span → x ≡ y
same_finding x y r s = ap (λ q. finding_made q x.span) r ∙ ap (λ t. finding_made y.rule t) s

-- The first file without tokens is one.
fault_parts_once : (n : ℕ) (earlier earlier1 : List (List ℕ)) (bytes bytes1 : List ℕ) (later later1 : List (List ℕ)) (fs gs : List FileTokens)
    (kind kind1 : FaultKind) (start end start1 end1 : ℕ) → AreTokens n earlier fs → AreTokens n earlier1 gs →
    earlier ++ bytes ∷ later ≡ earlier1 ++ bytes1 ∷ later1 → HasFault bytes kind start end → HasFault bytes1 kind1 start1 end1 →
    (earlier ≡ earlier1) × (bytes ≡ bytes1)
fault_parts_once n [] [] bytes bytes1 later later1 fs gs kind kind1 start end start1 end1 h k e f g =
    let heads : bytes ∷ later ≡ bytes1 ∷ later1 = e in
    let first : bytes ≡ bytes1 = cc in
    (refl, first)
fault_parts_once n [] (b ∷ bs) bytes bytes1 later later1 fs _ kind kind1 start end start1 end1 h (AreTokens.more_files {f = t} is more) e f g =
    let heads : bytes ∷ later ≡ b ∷ (bs ++ bytes1 ∷ later1) = e in
    let first : bytes ≡ b = cc in
    absurd (apart n b t.list t.names t.texts kind start end is (subst (λ x. HasFault x kind start end) first f))
fault_parts_once n (b ∷ bs) [] bytes bytes1 later later1 _ gs kind kind1 start end start1 end1 (AreTokens.more_files {f = t} is more) k e f g =
    let heads : b ∷ (bs ++ bytes ∷ later) ≡ bytes1 ∷ later1 = e in
    let first : bytes1 ≡ b = cc in
    absurd (apart n b t.list t.names t.texts kind1 start1 end1 is (subst (λ x. HasFault x kind1 start1 end1) first g))
fault_parts_once n (b ∷ bs) (c ∷ cs) bytes bytes1 later later1 _ _ kind kind1 start end start1 end1 (AreTokens.more_files {fs = fs} is more)
    (AreTokens.more_files {fs = gs} is1 more1) e f g =
    let heads : b ∷ (bs ++ bytes ∷ later) ≡ c ∷ (cs ++ bytes1 ∷ later1) = e in
    let first : b ≡ c = cc in
    let tails : bs ++ bytes ∷ later ≡ cs ++ bytes1 ∷ later1 = cc in
    let rest = fault_parts_once (suc n) bs cs bytes bytes1 later later1 fs gs kind kind1 start end start1 end1 more more1 tails f g in
    (same_more b c bs cs first rest.0, rest.1)

token_fault_once : (files : List (List ℕ)) (x y : Finding) → IsFirstTokenFault files x → IsFirstTokenFault files y → x ≡ y
token_fault_once files x y h k =
    let parts = fault_parts_once 0 h.earlier k.earlier h.bytes k.bytes h.later k.later h.tokens k.tokens h.fault.kind k.fault.kind
    x.span.start x.span.end y.span.start y.span.end h.lexed k.lexed (sym h.parts ∙ k.parts) h.fault.there k.fault.there in
    let there : HasFault k.bytes h.fault.kind x.span.start x.span.end =
    subst (λ b. HasFault b h.fault.kind x.span.start x.span.end) parts.1 h.fault.there in
    let one = one_fault k.bytes h.fault.kind k.fault.kind x.span.start x.span.end y.span.start y.span.end there k.fault.there in
    let file : x.span.file ≡ y.span.file = h.fault.is_file ∙ ap length parts.0 ∙ sym k.fault.is_file in
    same_finding x y (h.fault.is_rule ∙ ap (λ (f : FaultKind). rule.Token f) one.0 ∙ sym k.fault.is_rule)
    (same_span x.span y.span file one.1 one.2)

-- The first file that is no unit is one.
unread_once : (earlier earlier1 : List FileTokens) (f g : FileTokens) (later later1 : List FileTokens) → AllByRecursion HasUnit earlier →
    AllByRecursion HasUnit earlier1 → earlier ++ f ∷ later ≡ earlier1 ++ g ∷ later1 → ((u : CompilationUnit) → ¬ IsUnit f u) →
    ((u : CompilationUnit) → ¬ IsUnit g u) → f ≡ g
unread_once [] [] f g later later1 h k e unread unread1 =
    let heads : f ∷ later ≡ g ∷ later1 = e in
    cc
unread_once [] (t ∷ ts) f g later later1 h k e unread unread1 =
    let heads : f ∷ later ≡ t ∷ (ts ++ g ∷ later1) = e in
    let first : t ≡ f = cc in
    absurd (unread k.0.0 (subst (λ x. IsUnit x k.0.0) first k.0.1))
unread_once (t ∷ ts) [] f g later later1 h k e unread unread1 =
    let heads : t ∷ (ts ++ f ∷ later) ≡ g ∷ later1 = e in
    let first : t ≡ g = cc in
    absurd (unread1 h.0.0 (subst (λ x. IsUnit x h.0.0) first h.0.1))
unread_once (t ∷ ts) (s ∷ ss) f g later later1 h k e unread unread1 =
    let heads : t ∷ (ts ++ f ∷ later) ≡ s ∷ (ss ++ g ∷ later1) = e in
    let tails : ts ++ f ∷ later ≡ ss ++ g ∷ later1 = cc in
    unread_once ts ss f g later later1 h.1 k.1 tails unread unread1

syntax_fault_once : (f g : FileTokens) (x y : Finding) → f ≡ g → IsSyntaxFault f x → IsSyntaxFault g y → x ≡ y
syntax_fault_once f g x y same h k =
    let is_place : IsSyntaxPlace g.names g.texts max_height g.list (drop h.place g.list) =
    subst (λ t. IsSyntaxPlace t.names t.texts max_height t.list (drop h.place t.list)) same h.is_place in
    let there : x.span ≡ first_span (drop h.place g.list) = subst (λ t. x.span ≡ first_span (drop h.place t.list)) same h.there in
    let places = place_once g.names g.texts max_height g.list (drop h.place g.list) (drop k.place g.list) is_place k.is_place in
    same_finding x y (h.is_rule ∙ sym k.is_rule) (there ∙ ap first_span places ∙ sym k.there)

pub fault_is_one : (files : List (List ℕ)) (x y : Finding) → IsFirstFault files x → IsFirstFault files y → x ≡ y
fault_is_one files x y (IsFirstFault.of_tokens h) (IsFirstFault.of_tokens k) = token_fault_once files x y h k
fault_is_one files x y (IsFirstFault.of_tokens h) (IsFirstFault.of_syntax {fs = fs} lexed k) =
    absurd (token_fault_apart 0 h.earlier h.bytes h.later fs h.fault.kind x.span.start x.span.end (subst (λ bs. AreTokens 0 bs fs) h.parts lexed) h.fault.there)
fault_is_one files x y (IsFirstFault.of_syntax {fs = fs} lexed h) (IsFirstFault.of_tokens k) =
    absurd (token_fault_apart 0 k.earlier k.bytes k.later fs k.fault.kind y.span.start y.span.end (subst (λ bs. AreTokens 0 bs fs) k.parts lexed) k.fault.there)
fault_is_one files x y (IsFirstFault.of_syntax {fs = fs} lexed h) (IsFirstFault.of_syntax {fs = gs} lexed1 k) =
    let same = tokens_once 0 files fs gs lexed lexed1 in
    let file = unread_once h.earlier k.earlier h.file k.file h.later k.later (recursion_from_All HasUnit h.earlier h.read) (recursion_from_All HasUnit k.earlier k.read)
    (sym h.parts ∙ same ∙ k.parts) h.fault.none k.fault.none in
    syntax_fault_once h.file k.file x y file h.fault k.fault
