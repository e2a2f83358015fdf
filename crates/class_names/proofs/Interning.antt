-- Texts that get numbers one after another.
use Rattle.std.proofs.Common.{◌≡◌, ℕ, suc, ◌+◌, ◌≤◌, ◌<◌, List, [], ◌∷◌, ◌++◌, length, map, drop, zero, slice_index_or, Bool, true, false, Option, Some, None, refl, sym, ap, ◌∙◌, arith, inl, inr, subst, if◌then◌else◌}
use Rattle.std.specs.Prelude.{option_map, is_some}
use Rattle.std.specs.Str.{bytes_eq}
use Rattle.std.proofs.lemmas.List.{length-append, length-map}
use Rattle.std.proofs.Math.Seq.{drop-cons}
use Rattle.je_base.specs.declared.span.NameId.{NameId}
use Rattle.je_base.specs.Names.{place_of, number_of, name_at, interned, interned_by}
use Rattle.je_base.proofs.Numbering.{number-push}
use Rattle.je_classes.proofs.Lists.{contains-cases}
use Rattle.je_table.specs.declared.classes.ClassRow.{ClassRow}
use Rattle.je_table.specs.declared.members.MemberRow.{MemberRow}
use Rattle.je_table.specs.Library.{Class, Member, classes, library}
use Rattle.je_table.specs.Rows.{Row, class_said, row_of, row_said}
use Rattle.class_names.specs.Words.{all_interned, class_words, member_words, further_words, library_words, AreNumbered, StayNumbered}

pub stay_same : (texts : List (List ℕ)) → StayNumbered texts texts
stay_same texts text id e = e

pub stay_on : (a b c : List (List ℕ)) → StayNumbered a b → StayNumbered b c → StayNumbered a c
stay_on a b c f g text id e = g text id (f text id e)

-- a text behind them moves no number
place_behind : (texts : List (List ℕ)) (more text : List ℕ) (n : ℕ) → place_of texts text ≡ Some n → place_of (texts ++ more ∷ []) text ≡ Some n
place_behind [] more text n e = absurd (cc)
place_behind (x ∷ texts) more text n e = by (λ m. place_behind texts more text m) (bytes_eq text x) refl (place_of texts text) refl e
  where
    by : ((m : ℕ) → place_of texts text ≡ Some m → place_of (texts ++ more ∷ []) text ≡ Some m) → (b : Bool) → bytes_eq text x ≡ b → (o : Option ℕ) → place_of texts text ≡ o → (if b then Some 0 else option_map suc o) ≡ Some n →
        (if bytes_eq text x then Some 0 else option_map suc (place_of (texts ++ more ∷ []) text)) ≡ Some n
    by ih true q o r e = rw q e
    by ih false q None r e = absurd (cc)
    by ih false q (Some m) r e = rw (q, ih m r) e

stay_behind : (texts : List (List ℕ)) (more text : List ℕ) (id : NameId) → number_of texts text ≡ Some id → number_of (texts ++ more ∷ []) text ≡ Some id
stay_behind texts more text id e = by (place_of texts text) refl e
  where
    by : (o : Option ℕ) → place_of texts text ≡ o → option_map name_at o ≡ Some id → number_of (texts ++ more ∷ []) text ≡ Some id
    by None r e = absurd (cc)
    by (Some n) r e = ap (option_map name_at) (place_behind texts more text n r) ∙ e

pub stay_interned : (texts : List (List ℕ)) (word : List ℕ) → StayNumbered texts (interned texts word)
stay_interned texts word text id e = by (place_of texts word)
  where
    by : (o : Option ℕ) → number_of (interned_by o texts word) text ≡ Some id
    by None = stay_behind texts word text id e
    by (Some n) = e

pub stay_all : (words texts : List (List ℕ)) → StayNumbered texts (all_interned texts words)
stay_all [] texts = stay_same texts
stay_all (word ∷ words) texts =
    stay_on texts (interned texts word) (all_interned (interned texts word) words) (stay_interned texts word) (stay_all words (interned texts word))

numbered_interned : (texts : List (List ℕ)) (word : List ℕ) → is_some (number_of (interned texts word) word) ≡ true
numbered_interned texts word = by (place_of texts word) refl
  where
    by : (o : Option ℕ) → place_of texts word ≡ o → is_some (number_of (interned_by o texts word) word) ≡ true
    by None r = rw (number-push texts word r) refl
    by (Some n) r = rw r refl

still_numbered : (before after : List (List ℕ)) (word : List ℕ) → StayNumbered before after → is_some (number_of before word) ≡ true → is_some (number_of after word) ≡ true
still_numbered before after word stay e = by (number_of before word) refl e
  where
    by : (o : Option NameId) → number_of before word ≡ o → is_some o ≡ true → is_some (number_of after word) ≡ true
    by None r e = absurd (cc)
    by (Some id) r e = rw (stay word id r) refl

pub all_numbered : (words texts : List (List ℕ)) → AreNumbered (all_interned texts words) words
all_numbered [] texts word c = let h : c.0 < 0 = c.1 in absurd (omega arith)
all_numbered (first ∷ words) texts word c = elim (contains-cases first word words c) [
  | inl e ↦ subst (λ w. is_some (number_of (all_interned texts (first ∷ words)) w) ≡ true) e
      (still_numbered (interned texts first) (all_interned (interned texts first) words) first (stay_all words (interned texts first)) (numbered_interned texts first))
  | inr d ↦ all_numbered words (interned texts first) word d
]

pub all_behind : (first second texts : List (List ℕ)) → all_interned texts (first ++ second) ≡ all_interned (all_interned texts first) second
all_behind [] second texts = refl
all_behind (word ∷ words) second texts = all_behind words second (interned texts word)

pub one_longer : (texts : List (List ℕ)) (word : List ℕ) → length (interned texts word) ≤ length texts + 1
one_longer texts word = by (place_of texts word)
  where
    by : (o : Option ℕ) → length (interned_by o texts word) ≤ length texts + 1
    by None = omega (arith, length-append texts (word ∷ []))
    by (Some n) = omega arith

pub stay_next : (before now : List (List ℕ)) (word : List ℕ) → StayNumbered before now → StayNumbered before (interned now word)
stay_next before now word stay = stay_on before now (interned now word) stay (stay_interned now word)

pub stay_by : (before now after : List (List ℕ)) (word : List ℕ) → now ≡ interned before word → StayNumbered now after → StayNumbered before after
stay_by before now after word e stay = stay_on before now after (rw e (stay_interned before word)) stay

pub all_longer : (words texts : List (List ℕ)) → length (all_interned texts words) ≤ length texts + length words
all_longer [] texts = omega arith
all_longer (word ∷ words) texts = omega (arith, one_longer texts word, all_longer words (interned texts word))

-- ---- the tables' words

names_of_classes : (rows : List ClassRow) → map (λ (c : Class). c.name) (map class_said rows) ≡ map (λ (r : ClassRow). r.name.now) rows
names_of_classes [] = refl
names_of_classes (row ∷ rows) = ap (λ ns. row.name.now ∷ ns) (names_of_classes rows)

pub class_names_said : (rows : List ClassRow) → map class_said rows ≡ classes → map (λ (r : ClassRow). r.name.now) rows ≡ class_words
unfolding class_words
class_names_said rows e = sym (names_of_classes rows) ∙ ap (map (λ (c : Class). c.name)) e

names_of_rows : (rows : List MemberRow) → map (λ (r : Row). r.name) (map row_said rows) ≡ map (λ (r : MemberRow). r.name.now) rows
names_of_rows [] = refl
names_of_rows (row ∷ rows) = ap (λ ns. row.name.now ∷ ns) (names_of_rows rows)

names_of_members : (members : List Member) → map (λ (r : Row). r.name) (map row_of members) ≡ map (λ (m : Member). m.name) members
names_of_members [] = refl
names_of_members (m ∷ members) = ap (λ ns. m.name ∷ ns) (names_of_members members)

pub member_names_said : (rows : List MemberRow) → map row_said rows ≡ map row_of library → map (λ (r : MemberRow). r.name.now) rows ≡ member_words
unfolding member_words
member_names_said rows e = sym (names_of_rows rows) ∙ ap (map (λ (r : Row). r.name)) e ∙ names_of_members library

pub few_classes : length class_words ≡ 39
unfolding class_words
few_classes = refl

pub few_members : length member_words ≤ 1000
unfolding member_words
few_members = omega arith

pub class_rows_few : (rows : List ClassRow) → map class_said rows ≡ classes → length rows ≡ 39
class_rows_few rows e = omega (arith, length-map rows (λ (r : ClassRow). r.name.now), ap length (class_names_said rows e), few_classes)

pub member_rows_few : (rows : List MemberRow) → map row_said rows ≡ map row_of library → length rows ≤ 1000
member_rows_few rows e = omega (arith, length-map rows (λ (r : MemberRow). r.name.now), ap length (member_names_said rows e), few_members)

-- ---- all of the library's words

in_turn : (first second third texts : List (List ℕ)) →
    all_interned (all_interned (all_interned (interned texts []) first) second) third ≡ all_interned texts ([] ∷ first ++ second ++ third)
in_turn first second third texts =
    sym (all_behind (([] ∷ first) ++ second) third texts ∙ ap (λ ts. all_interned ts third) (all_behind ([] ∷ first) second texts))

pub words_in_turn : (texts : List (List ℕ)) → all_interned (all_interned (all_interned (interned texts []) class_words) member_words) further_words ≡ all_interned texts library_words
unfolding library_words
words_in_turn texts = in_turn class_words member_words further_words texts

pub words_numbered : (texts : List (List ℕ)) → AreNumbered (all_interned texts library_words) library_words
words_numbered texts = all_numbered library_words texts

-- ---- one turn of a loop over words

pub drop_word : {A : Type 0} (word_of : A → List ℕ) (items : List A) (k : ℕ) (default : A) (texts : List (List ℕ)) → k < length items →
    all_interned texts (map word_of (drop k items)) ≡ all_interned (interned texts (word_of (slice_index_or items k default))) (map word_of (drop (k + 1) items))
drop_word word_of items k default texts l =
    let s : suc k ≡ k + 1 = omega arith in
    ap (λ xs. all_interned texts (map word_of xs)) (drop-cons items k default l) ∙
    ap (λ j. all_interned (interned texts (word_of (slice_index_or items k default))) (map word_of (drop j items))) s

pub drop_none : {A : Type 0} (word_of : A → List ℕ) (items : List A) (k : ℕ) (texts : List (List ℕ)) → length items ≤ k → all_interned texts (map word_of (drop k items)) ≡ texts
drop_none word_of [] zero texts l = refl
drop_none word_of [] (suc k) texts l = refl
drop_none word_of (x ∷ items) zero texts l = absurd (omega arith)
drop_none word_of (x ∷ items) (suc k) texts l = drop_none word_of items k texts (omega arith)

-- so many of the words of some items were gone over
abbrev pub Over : (A : Type 0) → (A → List ℕ) → List A → ℕ → List (List ℕ) → List (List ℕ) → Type 0
Over A word_of items k before now =
    (all_interned now (map word_of (drop k items)) ≡ all_interned before (map word_of items)) × StayNumbered before now × (length now ≤ length before + k)

pub turn : {A : Type 0} (word_of : A → List ℕ) (items : List A) (k : ℕ) (default : A) (before now after : List (List ℕ)) →
    k < length items → Over A word_of items k before now → after ≡ interned now (word_of (slice_index_or items k default)) → Over A word_of items (k + 1) before after
turn word_of items k default before now after l over e =
    let word : List ℕ = word_of (slice_index_or items k default) in
    rw e (sym (drop_word word_of items k default now l) ∙ over.0, stay_next before now word over.1, omega (arith, one_longer now word, over.2))
