-- Class by class in the second walk.
use Rattle.std.proofs.Common.{◌≡◌, ℕ, zero, suc, ◌+◌, ◌-◌, ◌<◌, ◌≤◌, List, [], ◌∷◌, ◌++◌, length, drop, take, refl, ap, sym, ◌∙◌, append_assoc, arith}
use Rattle.std.specs.Prelude.{map, min, slice_get}
use Rattle.std.proofs.lemmas.List.{drop-map, drop_min, length-drop, take_all}
use Rattle.std.proofs.Math.Seq.{drop-append_seam}
use Rattle.je_core.specs.Core.{CoreClass}
use Rattle.je_scopes.specs.Source.{Source}
use Rattle.je_typing.specs.declared.fault.Refusal.{Refusal}
use Rattle.je_typing.specs.declared.fault.Refusal.TheVariants.{Fault, Memory}
use Rattle.je_typing.specs.Answers.{IsFault, first_fault, wants_memory}
use Rattle.je_typing.specs.Judged.{Judged, gives, faulty, bind}
use Rattle.je_typing.proofs.Walks.{bind_faults}
use Rattle.declarations.specs.Declarations.{DeclaredClass, DeclaredField}
use Rattle.name_typing.specs.Fields.{fields_of}
use Rattle.name_typing.specs.Program.{Program}
use Rattle.body_typing.specs.Bodies.{Met}
use Rattle.class_typing.specs.Classes.{core_class, fields_in}
use Rattle.class_typing.specs.Elaboration.{World, core_classes, hidden_count, members_of}
use Rattle.class_typing.specs.Members.{MembersDone, class_members}
use Rattle.class_typing.specs.Places.{round_met}
use Rattle.class_typing.specs.Programs.{CapturedLocal, hidden_fields, with_hidden}
use Rattle.type_decl.specs.way.Seen.{members_at}
use Rattle.type_decl.specs.way.Walked.{made}

-- ---- the fields that a source writes stand behind the hidden ones

pub behind_hidden : {A B : Type 0} (see : A → B) (fs : List A) (n h : ℕ) → h ≡ min n (length fs) →
    map see (take (length fs - h) (drop h fs)) ≡ drop n (map see fs)
behind_hidden see fs n h e =
    ap (map see) (take_all (length fs - h) (drop h fs) (omega (arith, length-drop h fs)))
    ∙ ap (λ (k : ℕ). map see (drop k fs)) e
    ∙ ap (map see) (drop_min n fs)
    ∙ sym (drop-map see n fs)

none-left : (n : ℕ) → drop {A = DeclaredField} n [] ≡ []
none-left zero = refl
none-left (suc n) = refl

module _ (source : Source) (captured : ℕ → List CapturedLocal) (p : Program) (at : ℕ) where
  written-from : (ds : List DeclaredClass) (first c : ℕ) →
      drop (hidden_count source captured (first + c)) (fields_of (with_hidden source captured first ds) c) ≡ fields_in p captured at (slice_get ds c)
  written-from [] first c = none-left (hidden_count source captured (first + c))
  written-from (d ∷ ds) first zero =
      let here : first + 0 ≡ first = omega arith in
      ap (λ (c : ℕ). drop (hidden_count source captured c) (hidden_fields source captured first ++ d.fields)) here
      ∙ drop-append_seam (hidden_fields source captured first) d.fields
  written-from (d ∷ ds) first (suc c) =
      let there : first + suc c ≡ suc first + c = omega arith in
      ap (λ (n : ℕ). drop (hidden_count source captured n) (fields_of (with_hidden source captured (suc first) ds) c)) there
      ∙ written-from ds (suc first) c

  pub written_behind : (ds : List DeclaredClass) (c : ℕ) →
      drop (hidden_count source captured c) (fields_of (with_hidden source captured 0 ds) c) ≡ fields_in p captured at (slice_get ds c)
  written_behind ds c =
      let same : c ≡ 0 + c = omega arith in
      ap (λ (n : ℕ). drop (hidden_count source captured n) (fields_of (with_hidden source captured 0 ds) c)) same
      ∙ written-from ds 0 c

-- ---- class by class

module _ (source : Source) (w : World) (captured : ℕ → List CapturedLocal) (met : List Met) where
  pub same_members : (hidden : ℕ → ℕ) (c : ℕ) → w.program.source ≡ source → hidden ≡ hidden_count source captured →
      members_at w hidden met c ≡ members_of source w captured met c
  same_members hidden c e h = λ i. class_members w.program w.known c (round_met (e i).sites met c) met (h i c)

  abbrev pub behind : List CoreClass → Judged (List CoreClass) → Judged (List CoreClass)
  behind done rest = bind rest (λ ks. gives (done ++ ks))

  none-before : (rest : Judged (List CoreClass)) → rest ≡ behind [] rest
  unfolding bind
  none-before (gives ks) = refl
  none-before (faulty fault) = refl

  one-then : {A : Type 0} (m : Judged A) (f : A → CoreClass) (done : List CoreClass) (k : CoreClass) (rest : Judged (List CoreClass)) →
      bind m (λ a. gives (f a)) ≡ gives k →
      behind done (bind m (λ a. bind rest (λ ks. gives (f a ∷ ks)))) ≡ behind (done ++ k ∷ []) rest
  unfolding bind
  one-then (gives a) f done k (gives ks) e = let same : f a ≡ k = cc in ap (λ (c : CoreClass). gives (done ++ c ∷ ks)) same ∙ ap gives (sym (append_assoc done (k ∷ []) ks))
  one-then (gives a) f done k (faulty fault) e = refl
  one-then (faulty fault) f done k rest e = absurd cc

  unbound : {A B : Type 0} (m : Judged A) (f : A → B) (r : Refusal) → IsFault (bind m (λ a. gives (f a))) r → IsFault m r
  unfolding bind
  unbound m f Memory h = wants_memory
  unbound (gives a) f (Fault fault) (first_fault e) = absurd cc
  unbound (faulty fault) f (Fault other) (first_fault e) = let same : fault ≡ other = cc in first_fault (ap faulty same)

  abbrev pub from : ℕ → ℕ → Judged (List CoreClass)
  from c n = core_classes source w captured met c n

  pub making_begins : (done : List CoreClass) (c n m : ℕ) → done ≡ [] → n ≡ m → from c n ≡ behind done (from c m)
  making_begins done c n m e h = rw (e, h) (none-before (from c m))

  pub class_made : (whole : Judged (List CoreClass)) (done ready : List CoreClass) (k : CoreClass) (c n : ℕ) → c < n →
      whole ≡ behind done (from c (n - c)) → made source w captured met c ≡ gives k → ready ≡ done ++ k ∷ [] →
      whole ≡ behind ready (from (c + 1) (n - (c + 1)))
  class_made whole done ready k c n l so e h =
      let left : n - c ≡ suc (n - (c + 1)) = omega (arith, l) in
      let next : suc c ≡ c + 1 = omega arith in
      so
      ∙ ap (λ (j : ℕ). behind done (from c j)) left
      ∙ one-then (members_of source w captured met c) (core_class w.program captured c) done k (from (suc c) (n - (c + 1))) e
      ∙ ap (λ (d : ℕ). behind (done ++ k ∷ []) (from d (n - (c + 1)))) next
      ∙ ap (λ (ks : List CoreClass). behind ks (from (c + 1) (n - (c + 1)))) (sym h)

  pub class_fails : (whole : Judged (List CoreClass)) (done : List CoreClass) (c n : ℕ) (r : Refusal) → c < n →
      whole ≡ behind done (from c (n - c)) → IsFault (made source w captured met c) r → IsFault whole r
  class_fails whole done c n r l so h =
      let left : n - c ≡ suc (n - (c + 1)) = omega (arith, l) in
      rw (so ∙ ap (λ (j : ℕ). behind done (from c j)) left)
      (bind_faults _ _ r (bind_faults (members_of source w captured met c) _ r (unbound (members_of source w captured met c) (core_class w.program captured c) r h)))

  none-behind : (ks : List CoreClass) → ks ++ [] ≡ ks
  none-behind [] = refl
  none-behind (k ∷ ks) = ap (λ (js : List CoreClass). k ∷ js) (none-behind ks)

  pub all_made : (whole : Judged (List CoreClass)) (done : List CoreClass) (c k : ℕ) → k ≡ 0 → whole ≡ behind done (from c k) → whole ≡ gives done
  unfolding bind
  all_made whole done c k e so = so ∙ ap (λ (n : ℕ). behind done (from c n)) e ∙ ap gives (none-behind done)
