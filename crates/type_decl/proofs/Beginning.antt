-- What the first half goes by.
use Rattle.std.proofs.Common.{◌≡◌, ℕ, zero, suc, List, [], ◌∷◌, length, map, refl, ap, sym, subst, ◌∙◌, arith}
use Rattle.std.specs.Prelude.{Bool, Option, None, slice_get, slice_index, unwrap_or}
use Rattle.std.specs.declared.vec.Vec.{Vec}
use Rattle.std.specs.declared.alloc.Global.{Global}
use Rattle.std.specs.Vec.{vec_len}
use Rattle.std.proofs.lemmas.List.{length-map}
use Rattle.je_base.specs.declared.span.NameId.{NameId}
use Rattle.je_classes.specs.Members.{Member}
use Rattle.je_scopes.specs.Source.{Source}
use Rattle.je_typing.specs.declared.fault.Refusal.{Refusal}
use Rattle.je_typing.specs.Answers.{IsFault}
use Rattle.je_typing.specs.Judged.{Judged, gives}
use Rattle.declarations.specs.Declarations.{type_at}
use Rattle.name_typing.specs.Program.{Constant, Program}
use Rattle.body_places.specs.declared.program.Program.{Program as Held}
use Rattle.body_places.specs.View.{program_seen}
use Rattle.signature_typing.specs.Signatures.{Setting, signatures}
use Rattle.class_typing.specs.Elaboration.{constants_first, first_program, first_world, hidden_count, is_constant, setting}
use Rattle.class_typing.specs.Programs.{CapturedLocal, classes, heads, plain_program, with_hidden}
use Rattle.field_values.specs.Values.{count_at}
use Rattle.program_tables.specs.Known.{CapturedLocal as HeldLocal, captured_local_seen, captured_seen}
use Rattle.class_heads.specs.View.{classes_of}
use Rattle.call_steps.specs.TableView.{HasMethods}
use Rattle.call_steps.specs.declared.table.MethodTable.{MethodTable}
use Rattle.source_subtypes.specs.View.{heads_of}
use Rattle.type_faults.specs.Program.{source_in}
use Rattle.declarations.specs.Declarations.{DeclaredClass}
use Rattle.source_types.specs.Heads.{ClassHead}
use Rattle.type_decl.specs.way.Halves.{judged_first}

-- ---- a program in memory

module _ (source : Source) (captured : ℕ → List CapturedLocal) (constants : Member → Option Constant) (p : Held)
    (is : program_seen p ≡ record (plain_program source captured) { constants = constants }) where
  pub source_is : source_in p.source ≡ source
  unfolding plain_program
  source_is = λ i. (is i).source

  pub heads_is : heads_of p.heads.now ≡ heads source
  unfolding plain_program
  heads_is = λ i. (is i).heads

  pub classes_is : classes_of p.classes ≡ with_hidden source captured 0 (classes source)
  unfolding plain_program
  classes_is = λ i. (is i).classes

  pub methods_stay : (hs : List ClassHead) (ds : List DeclaredClass) (t : MethodTable) → hs ≡ heads source → ds ≡ with_hidden source captured 0 (classes source) →
      HasMethods hs ds t → HasMethods (heads_of p.heads.now) (classes_of p.classes) t
  methods_stay hs ds t h d m =
      subst (λ (es : List DeclaredClass). HasMethods (heads_of p.heads.now) es t) (d ∙ sym classes_is)
      (subst (λ (ks : List ClassHead). HasMethods ks ds t) (h ∙ sym heads_is) m)

pub plain_is : (source : Source) (captured : ℕ → List CapturedLocal) → plain_program source captured ≡ record (plain_program source captured) { constants = λ m. None }
unfolding plain_program
plain_is source captured = refl

pub first_source : (source : Source) → (first_program source).source ≡ source
unfolding plain_program
first_source source = refl

-- ---- headers and signatures

pub first_classes : (source : Source) → (first_world source (constants_first source)).program.classes ≡ with_hidden source (λ c. []) 0 (classes source)
unfolding plain_program
first_classes source = refl

module _ (source : Source) (ds : List DeclaredClass) (c : ds ≡ classes source) (hs : List ClassHead) (h : hs ≡ heads source) (f : ℕ → NameId → Bool)
    (n : f ≡ is_constant source (first_world source (constants_first source)).program) where
  abbrev held : Setting
  held = record { sites = source.sites; classes = ds; heads = hs; means = type_at source; is_constant = f }

  setting-is : held ≡ setting source (first_world source (constants_first source)).program
  unfolding plain_program
  setting-is = λ i. record {
    sites = source.sites;
    classes = c i;
    heads = h i;
    means = type_at source;
    is_constant = n i;
  }

  pub judged_gives : (done : Unit {0}) → signatures held ≡ gives done → judged_first source ≡ gives done
  judged_gives done g = ap signatures (sym setting-is) ∙ g

  pub judged_faults : (r : Refusal) → IsFault (signatures held) r → IsFault (judged_first source) r
  judged_faults r f = subst (λ (j : Judged (Unit {0})). IsFault j r) (ap signatures setting-is) f

-- ---- counts by number

pub counted_at : (ns : List ℕ) (c : ℕ) → unwrap_or (slice_get ns c) 0 ≡ slice_index ns c
counted_at [] zero = refl
counted_at [] (suc c) = refl
counted_at (n ∷ ns) zero = refl
counted_at (n ∷ ns) (suc c) = counted_at ns c

pub hidden_counted : (source : Source) (captured : ℕ → List CapturedLocal) (ns : List ℕ) → count_at ns ≡ hidden_count source captured →
    (c : ℕ) → slice_index ns c ≡ hidden_count source captured c
hidden_counted source captured ns e c = sym (counted_at ns c) ∙ ap (λ (f : ℕ → ℕ). f c) e

pub counted_locals : (vs : List (Vec HeldLocal Global)) (c : ℕ) → count_at (map vec_len vs) c ≡ length (captured_seen vs c)
counted_locals [] c = refl
counted_locals (v ∷ vs) zero = omega (arith, v.ok, length-map v.items captured_local_seen)
counted_locals (v ∷ vs) (suc c) = counted_locals vs c
