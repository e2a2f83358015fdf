-- Lists by class: what holds of each class that there is, holds past the last too.
use Rattle.std.proofs.Common.{◌≡◌, ℕ, ◌<◌, ◌≤◌, List, [], length, Option, None, Some, refl, ap, sym, ◌∙◌, subst}
use Rattle.std.specs.Prelude.{Bool, true, false, if◌then◌else◌, is_some, option_map, slice_get}
use Rattle.std.specs.declared.vec.Vec.{Vec}
use Rattle.std.specs.declared.alloc.Global.{Global}
use Rattle.std.proofs.lemmas.Option.{slice_get_past}
use Rattle.je_scopes.specs.Headers.{is_guest, is_local_sort, or_nothing, site_at}
use Rattle.je_scopes.specs.Sites.{Site}
use Rattle.je_scopes.proofs.Either.{by_either, within_or_past}
use Rattle.name_typing.specs.Program as program
use Rattle.body_typing.specs.Bodies.{Met}
use Rattle.body_places.specs.declared.place.Frame.{Frame}
use Rattle.body_scopes.specs.View.{is_set}
use Rattle.program_tables.specs.Known.{frames_in, round_seen}
use Rattle.class_typing.specs.Places.{in_body, innermost_in_body, is_placed, met_at, round_met, round_without_locals}
use Rattle.type_decl.specs.way.Asked.{is_asked}

by_class : {A B : Type 0} (see : Option A → B) (due : ℕ → B) (xs : List A) (n : ℕ) → length xs ≡ n →
    ((c : ℕ) → c < n → see (slice_get xs c) ≡ due c) → ((c : ℕ) → n ≤ c → see None ≡ due c) → (c : ℕ) → see (slice_get xs c) ≡ due c
by_class see due xs n e within past c =
    by_either (within c)
    (λ l. ap see (slice_get_past xs c (subst (λ (k : ℕ). k ≤ c) (sym e) l)) ∙ past c l)
    (within_or_past c n)

pub some_seen : {A B : Type 0} (f : A → B) (o : Option A) → is_some (option_map f o) ≡ is_some o
some_seen f None = refl
some_seen f (Some a) = refl

module _ (sites : List Site) where
  past-site : (c : ℕ) → length sites ≤ c → site_at sites c ≡ or_nothing None
  past-site c l = ap or_nothing (slice_get_past sites c l)

  past-body : (c : ℕ) → length sites ≤ c → in_body sites c ≡ None
  unfolding in_body
  past-body c l =
      ap (λ (o : Option Site). innermost_in_body sites c (or_nothing o).spot.round) (slice_get_past sites c l)
      ∙ ap (λ (o : Option Site). if is_local_sort (or_nothing o).sort then Some c else None) (slice_get_past sites c l)

  past-placed : (met : List Met) (c : ℕ) → length sites ≤ c → is_placed sites met c ≡ false
  past-placed met c l = ap (λ (o : Option ℕ). is_some (met_at sites met o)) (past-body c l)

  without-past : (c : ℕ) → length sites ≤ c → round_without_locals sites c ≡ []
  unfolding round_without_locals
  without-past c l = rw (slice_get_past sites c l) refl

  past-round : (met : List Met) (c : ℕ) → length sites ≤ c → round_met sites met c ≡ []
  unfolding round_met
  past-round met c l = rw (past-body c l) (without-past c l)

  pub all_round : (met : List Met) (rounds : List (Vec Frame Global)) → length rounds ≡ length sites →
      ((c : ℕ) → c < length sites → frames_in (slice_get rounds c) ≡ round_met sites met c) → round_seen rounds ≡ round_met sites met
  all_round met rounds e each = λ i. λ c. by_class frames_in (round_met sites met) rounds (length sites) e each (λ d l. sym (past-round met d l)) c i

  pub all_placed : (met : List Met) (asked : List Bool) → length asked ≡ length sites →
      ((c : ℕ) → c < length sites → is_set (slice_get asked c) ≡ is_placed sites met c) → is_asked asked ≡ is_placed sites met
  all_placed met asked e each = λ i. λ c. by_class is_set (is_placed sites met) asked (length sites) e each (λ d l. sym (past-placed met d l)) c i

  pub all_guests : (asked : List Bool) → length asked ≡ length sites →
      ((c : ℕ) → c < length sites → is_set (slice_get asked c) ≡ is_guest (site_at sites c).written) →
      is_asked asked ≡ (λ c. is_guest (site_at sites c).written)
  all_guests asked e each = λ i. λ c. by_class is_set (λ d. is_guest (site_at sites d).written) asked (length sites) e each
      (λ d l. ap (λ (s : Site). is_guest s.written) (sym (past-site d l))) c i

  pub asked_rounds : (met : List Met) (asked : ℕ → Bool) (rounds : List (Vec Frame Global)) → length rounds ≡ length sites →
      ((c : ℕ) → c < length sites → asked c ≡ true → frames_in (slice_get rounds c) ≡ round_met sites met c) →
      (c : ℕ) → asked c ≡ true → round_seen rounds c ≡ round_met sites met c
  asked_rounds met asked rounds e each c is_asked = by_either (λ l. each c l is_asked)
      (λ l. ap frames_in (slice_get_past rounds c (subst (λ (k : ℕ). k ≤ c) (sym e) l)) ∙ sym (past-round met c l))
      (within_or_past c (length sites))
