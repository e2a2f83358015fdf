-- The methods that a type has, by a table of what each class has.
use Rattle.std.proofs.Common.{◌≡◌, ℕ, zero, suc, List, map, filter, refl, ap}
use Rattle.je_base.specs.declared.span.NameId.{NameId}
use Rattle.je_scopes.specs.SourceTypes.{SourceType, plain, of_class, of_variable}
use Rattle.source_types.specs.Heads.{ClassHead, object_type}
use Rattle.declarations.specs.Declarations.{DeclaredClass}
use Rattle.je_typing.specs.Castable.{bounded}
use Rattle.overriding.specs.Methods.{Method, is_inheritable, put_in, seen_in}
use Rattle.call_typing.specs.Methods.{candidate_of, candidates, methods_in, methods_of, named}
use Rattle.call_steps.specs.declared.table.MethodTable.{MethodTable}
use Rattle.call_steps.specs.TableView.{HasMethods, methods_at}
use Rattle.call_steps.specs.way.Sought.{methods_by, named_by}

seen-alike : (f g : ℕ → List Method) → ((c : ℕ) → f c ≡ g c) → (t : SourceType) → seen_in f t ≡ seen_in g t
seen-alike f g e (plain b n) = refl
seen-alike f g e (of_class c args n) = ap (λ (ms : List Method). map (put_in (of_class c args n)) (filter is_inheritable ms)) (e c)
seen-alike f g e (of_variable c at n) = refl

module _ (heads : List ClassHead) (classes : List DeclaredClass) (x : NameId) (f : ℕ → List Method) (e : (c : ℕ) → f c ≡ methods_of heads classes x c) where
  above : (t : SourceType) → seen_in f t ≡ seen_in (methods_of heads classes x) t
  above t = seen-alike f (methods_of heads classes x) e t

  methods-alike : (t : SourceType) → methods_by heads f t ≡ methods_in heads classes x t
  unfolding methods_by
  methods-alike (plain b zero) = refl
  methods-alike (plain b (suc n)) = above object_type
  methods-alike (of_class c args zero) = ap (λ (ms : List Method). map (put_in (of_class c args 0)) ms) (e c)
  methods-alike (of_class c args (suc n)) = above object_type
  methods-alike (of_variable c at zero) = above (bounded heads (of_variable c at 0))
  methods-alike (of_variable c at (suc n)) = above object_type

pub by_table : (heads : List ClassHead) (classes : List DeclaredClass) (table : MethodTable) (x : NameId) (t : SourceType) → HasMethods heads classes table →
    map candidate_of (methods_by heads (named_by (methods_at table) x) t) ≡ candidates heads classes x t
unfolding candidates
by_table heads classes table x t has = ap (λ (ms : List Method). map candidate_of ms) (methods-alike heads classes x (named_by (methods_at table) x) (λ c. ap (named x) (has.each c)) t)
