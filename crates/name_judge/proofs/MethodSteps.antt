-- The methods of a class, one after another.
use Rattle.std.proofs.Common.{◌≡◌, ℕ, ◌+◌, ◌<◌, ◌≤◌, List, [], ◌∷◌, ◌++◌, Bool, length, map, option_map, drop, get_or, sym, ap, subst, add-one, drop-cons}
use Rattle.std.specs.Prelude.{suc}
use Rattle.std.specs.List.{flat_map, list_any}
use Rattle.std.proofs.Math.ListN.{drop_of_length-le}
use Rattle.je_base.specs.declared.span.Span.{Span}
use Rattle.je_ast.specs.declared.decl.Member.{Member}
use Rattle.je_ast.specs.Types.{formal_view, name_view, type_view}
use Rattle.je_ast.specs.View.{member_view, member_views_of}
use Rattle.je_scopes.specs.Source.{Source}
use Rattle.je_scopes.specs.Members.{MethodSite, method_part, method_sites, methods_before}
use Rattle.je_scopes.specs.Faults.{Fault, of_formal, of_method, of_methods, of_optional_type, of_thrown, same_signature, twice, where_so}
use Rattle.name_lookup.specs.View.{part_view}
use Rattle.name_faults.specs.declared.faults.Faults.{Faults}
use Rattle.name_faults.specs.View.{Adds}
use Rattle.name_faults.proofs.Left.{adds_both, left_all, left_done, left_step}
use Rattle.name_judge.specs.declared.met.Signatures.{Signatures}
use Rattle.name_judge.specs.Kept.{AreMet, IsHead}
use Rattle.name_judge.specs.declared.methods.Method.{Method}
use Rattle.name_judge.specs.way.Progress.{IsMethod, MethodsLeft}

pub methods_begin : (p : Source) (c : ℕ) (a : Faults) (met : Signatures) (ms : List MethodSite) → AreMet p c [] met → MethodsLeft p c a a met ms (of_methods p c [] ms)
methods_begin p c a met ms none = record { earlier = []; have = none; left = left_all a (of_methods p c [] ms) }

module _ (p : Source) (c : ℕ) (whole : List Fault) where
  pub methods_done : (start a : Faults) (met : Signatures) → MethodsLeft p c start a met [] whole → Adds start a whole
  methods_done start a met l = left_done whole l.left

  -- ---- one method

  method-next : (start a b d e f : Faults) (met new : Signatures) (m : MethodSite) (rest : List MethodSite) (repeats : Bool) →
      ((earlier : List MethodSite) → AreMet p c earlier met → repeats ≡ list_any (same_signature p c m) earlier) →
      ((earlier : List MethodSite) → AreMet p c earlier met → AreMet p c (earlier ++ m ∷ []) new) →
      Adds a b (where_so repeats (twice m.name.span)) → Adds b d (of_optional_type p c (method_part m) m.result) →
      Adds d e (flat_map (of_formal p c (method_part m)) m.formals) → Adds e f (flat_map (of_thrown p c (method_part m)) m.throws) →
      MethodsLeft p c start a met (m ∷ rest) whole → MethodsLeft p c start f new rest whole
  method-next start a b d e f met new m rest repeats is more s t u v l =
      let result = of_optional_type p c (method_part m) m.result in
      let formals = flat_map (of_formal p c (method_part m)) m.formals in
      let thrown = flat_map (of_thrown p c (method_part m)) m.throws in
      record {
        earlier = l.earlier ++ m ∷ [];
        have = more l.earlier l.have;
        left = left_step (of_method p c l.earlier m) (of_methods p c (l.earlier ++ m ∷ []) rest) whole l.left
            (subst (λ (k : Bool). Adds a f (where_so k (twice m.name.span) ++ result ++ formals ++ thrown)) (is l.earlier l.have)
            (adds_both (where_so repeats (twice m.name.span) ++ result ++ formals) thrown
            (adds_both (where_so repeats (twice m.name.span) ++ result) formals (adds_both (where_so repeats (twice m.name.span)) result s t) u) v));
      }

  pub method_judged : (start a b d e f : Faults) (met new : Signatures) (method : Method) (m : MethodSite) (rest : List MethodSite) (repeats : Bool) → IsMethod method m →
      ((earlier : List MethodSite) (k : MethodSite) → AreMet p c earlier met → IsHead method.head k → repeats ≡ list_any (same_signature p c k) earlier) →
      ((earlier : List MethodSite) (k : MethodSite) → AreMet p c earlier met → IsHead method.head k → AreMet p c (earlier ++ k ∷ []) new) →
      Adds a b (where_so repeats (twice method.span)) →
      Adds b d (of_optional_type p c (part_view method.head.place.part) (option_map (λ t. type_view t.now) method.result)) →
      Adds d e (flat_map (of_formal p c (part_view method.head.place.part)) (map formal_view method.head.formals.now)) →
      Adds e f (flat_map (of_thrown p c (part_view method.head.place.part)) (map name_view method.throws.now)) →
      MethodsLeft p c start a met (m ∷ rest) whole → MethodsLeft p c start f new rest whole
  method_judged start a b d e f met new method m rest repeats is rep more s t u v l =
      method-next start a b d e f met new m rest repeats (λ earlier are. rep earlier m are is.head) (λ earlier are. more earlier m are is.head)
      (subst (λ (k : Span). Adds a b (where_so repeats (twice k))) (sym is.span) s)
      (subst (λ (fs : List Fault). Adds b d fs) (sym (λ i. of_optional_type p c (is.head.part i) (is.result i))) t)
      (subst (λ (fs : List Fault). Adds d e fs) (sym (λ i. flat_map (of_formal p c (is.head.part i)) (is.head.formals i))) u)
      (subst (λ (fs : List Fault). Adds e f fs) (sym (λ i. flat_map (of_thrown p c (is.head.part i)) (is.throws i))) v) l

  -- ---- members

  module _ (members : List Member) (i : ℕ) (start a : Faults) (met : Signatures) where
    pub member_next : (d : Member) → i < length members → d ≡ get_or members i d → MethodsLeft p c start a met (method_sites (member_views_of (drop i members))) whole →
        MethodsLeft p c start a met (methods_before (member_view d) (method_sites (member_views_of (drop (i + 1) members)))) whole
    member_next d within is l =
        let next : drop i members ≡ d ∷ drop (i + 1) members = rw (add-one, drop-cons members i d) (ap (λ (k : Member). k ∷ drop (suc i) members) (sym is)) in
        subst (λ (ks : List Member). MethodsLeft p c start a met (method_sites (member_views_of ks)) whole) next l

    pub members_end : length members ≤ i → MethodsLeft p c start a met (method_sites (member_views_of (drop i members))) whole → MethodsLeft p c start a met [] whole
    members_end past l = subst (λ (ks : List Member). MethodsLeft p c start a met (method_sites (member_views_of ks)) whole) (drop_of_length-le members past) l
