-- Hidden fields in the list of all classes, and in that of a program.
use Rattle.std.proofs.Common.{◌≡◌, ℕ, zero, suc, ◌+◌, ◌<◌, ◌≤◌, ◌⊎◌, inl, inr, List, [], ◌∷◌, ◌++◌, length, drop, refl, sym, ap, ◌∙◌, arith}
use Rattle.std.specs.Prelude.{Bool, false, if◌then◌else◌, map, slice_index}
use Rattle.std.proofs.Math.Seq.{drop-append_seam}
use Rattle.std.proofs.lemmas.Bool.{cases_lt}
use Rattle.std.proofs.lemmas.List.{get_or_past}
use Rattle.std.proofs.lemmas.Option.{slice_get_past}
use Rattle.je_scopes.specs.Headers.{is_guest, or_nothing, site_at}
use Rattle.je_scopes.specs.Source.{Source}
use Rattle.class_heads.specs.View.{behind}
use Rattle.class_typing.specs.Elaboration.{hidden_count}
use Rattle.class_typing.specs.Programs.{CapturedLocal, hidden_field, hidden_fields, library_count, types_before, with_hidden}
use Rattle.declarations.specs.Declarations.{DeclaredClass, DeclaredField}
use Rattle.program_tables.specs.Counts.{behind_hidden, without_first}
use Rattle.program_tables.specs.Library.{IsLibraryFirst}

module _ (source : Source) (captured : ℕ → List CapturedLocal) where
  abbrev all-from : ℕ → List DeclaredClass → List DeclaredClass
  all-from c ds = with_hidden source captured c ds

  -- ---- classes without hidden fields

  none-hidden : (c : ℕ) → is_guest (site_at source.sites c).written ≡ false → hidden_fields source captured c ≡ []
  none-hidden c e =
      ap (λ (b : Bool). if b then map (hidden_field source) (types_before source captured c) else []) e

  past-sites : (c : ℕ) → length source.sites ≤ c → hidden_fields source captured c ≡ []
  past-sites c l = none-hidden c (ap (λ o. is_guest (or_nothing o).written) (slice_get_past source.sites c l))

  -- ---- the library's classes in front

  drop-hidden : (n c : ℕ) (ds : List DeclaredClass) → drop n (all-from c ds) ≡ all-from (c + n) (drop n ds)
  drop-hidden zero c ds = ap (λ (k : ℕ). all-from k ds) (omega arith)
  drop-hidden (suc n) c [] = refl
  drop-hidden (suc n) c (d ∷ ds) = drop-hidden n (suc c) ds ∙ ap (λ (k : ℕ). all-from k (drop n ds)) (omega arith)

  append-hidden : (c : ℕ) (ds es : List DeclaredClass) →
      all-from c (ds ++ es) ≡ all-from c ds ++ all-from (c + length ds) es
  append-hidden c [] es = ap (λ (k : ℕ). all-from k es) (omega arith)
  append-hidden c (d ∷ ds) es =
      ap (λ (rest : List DeclaredClass). behind_hidden source captured c d ∷ rest)
      (append-hidden (suc c) ds es ∙ ap (λ (k : ℕ). all-from (suc c) ds ++ all-from k es) (omega arith))

  same-without : (c : ℕ) (ds : List DeclaredClass) →
      ((k : ℕ) → k < c + length ds → is_guest (site_at source.sites k).written ≡ false) → all-from c ds ≡ ds
  same-without c [] h = refl
  same-without c (d ∷ ds) h =
      (λ i. record d { fields = none-hidden c (h c (omega arith)) i ++ d.fields }
      ∷ same-without (suc c) ds (λ k l. h k (omega (arith, l))) i)

  pub hidden_behind : (library before now : List DeclaredClass) → IsLibraryFirst source →
      length library ≡ library_count source → now ≡ with_hidden source captured 0 before →
      behind library now ≡ with_hidden source captured 0 (behind library before)
  hidden_behind library before now first count made =
      ap (λ (ds : List DeclaredClass). library ++ drop (length library) ds) made
      ∙ ap (λ (ds : List DeclaredClass). library ++ ds) (drop-hidden (length library) 0 before)
      ∙ ap (λ (ds : List DeclaredClass). ds ++ all-from (0 + length library) (drop (length library) before))
      (sym (same-without 0 library (λ k l. first k (omega (arith, l, count)))))
      ∙ sym (append-hidden 0 library (drop (length library) before))

  -- ---- how many there are, and without them

  pub all_counted : (counts : List ℕ) → length counts ≡ length source.sites →
      ((k : ℕ) → k < length source.sites → slice_index counts k ≡ hidden_count source captured k) →
      (c : ℕ) → slice_index counts c ≡ hidden_count source captured c
  all_counted counts many each c = by (cases_lt c (length source.sites))
    where
      by : (c < length source.sites ⊎ length source.sites ≤ c) → slice_index counts c ≡ hidden_count source captured c
      by (inl l) = each c l
      by (inr l) =
          get_or_past counts c 0 (omega (arith, l, many))
          ∙ sym (ap (λ (fs : List DeclaredField). length fs) (past-sites c l))

  pub without_hidden : (counts : List ℕ) → ((c : ℕ) → slice_index counts c ≡ hidden_count source captured c) →
      (c : ℕ) (ds : List DeclaredClass) → without_first counts c (with_hidden source captured c ds) ≡ ds
  without_hidden counts each c [] = refl
  without_hidden counts each c (d ∷ ds) =
      (λ i. record d {
        fields = (ap (λ (n : ℕ). drop n (hidden_fields source captured c ++ d.fields)) (each c)
            ∙ drop-append_seam (hidden_fields source captured c) d.fields) i;
      }
      ∷ without_hidden counts each (suc c) ds i)
