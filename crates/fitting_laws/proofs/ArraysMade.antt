-- New arrays fit where their lengths and elements do.
use Rattle.std.proofs.Common.{◌≡◌, ℕ, zero, suc, ◌+◌, ◌<◌, ◌≤◌, List, [], ◌∷◌, ◌++◌, length, Option, Some, None, refl, sym, ap, ◌∙◌, subst, arith, length-append}
use Rattle.std.specs.Prelude.{Bool, true, false, if◌then◌else◌, nat_le}
use Rattle.std.specs.List.{All}
use Rattle.std.proofs.lemmas.Bool.Decides.{nat_tests}
use Rattle.std.proofs.lemmas.Option.{none-some, same_Some}
use Rattle.std.proofs.lemmas.List.Elements.{All-cons, All-nil}
use Rattle.je_base.specs.declared.span.Span.{Span}
use Rattle.je_core.specs.declared.types.Base.TheVariants as base
use Rattle.je_core.specs.declared.types.Ty.{Ty}
use Rattle.je_core.specs.Core.{Core, CoreProgram, Cores, cores, list_of, more, none, node, ty_of}
use Rattle.je_core.specs.Core as core
use Rattle.je_classes.specs.Members.{first, further}
use Rattle.je_classes.proofs.Lists.{bool_cases}
use Rattle.je_fitting.specs.Expressions.{AllFit, Body, Fits}
use Rattle.je_fitting.specs.Expressions as fits
use Rattle.je_fitting.specs.Types.{agrees, is_int, types_of}
use Rattle.je_fitting.proofs.Booleans.{two}
use Rattle.je_scopes.specs.SourceTypes.{SourceType, plain, of_class, of_variable, with_dims}
use Rattle.plain_programs.specs.Nodes.{every, every_of}
use Rattle.source_types.specs.Erasure.{erased}
use Rattle.source_types.specs.Heads.{ClassHead}
use Rattle.source_types.specs.Subtypes.{dims_of}
use Rattle.je_typing.specs.declared.fault.TypeRule.TheVariants.{BadArray, BadIndex}
use Rattle.je_typing.specs.Arrays.{Part, array_node, array_of, array_type, elements_from, elements_if, elements_node, initialized, int_index, is_int_if, lengths_from, may_be_made, new_array}
use Rattle.je_typing.specs.Casts.{is_reifiable}
use Rattle.je_typing.specs.Conversions.{assigned, converted}
use Rattle.je_typing.specs.Judged.{Judged, bind, check, faulty, gives, need}
use Rattle.je_typing.specs.Promotion.{promoted}
use Rattle.je_typing.specs.Typed.{TypedNode, element_type}
use Rattle.typing_laws.specs.Correspondence.{HasHeads}
use Rattle.typing_laws.specs.Fitting.{Gives, stands_once, with_texts}
use Rattle.typing_laws.specs.Passing.{PassesAs}
use Rattle.typing_laws.proofs.Assigned.{assigned_values_pass}
use Rattle.typing_laws.proofs.Elements.{element-is, int-operand}
use Rattle.typing_laws.proofs.Nodes.{converted-as, converted-type}
use Rattle.typing_laws.proofs.Subtypes.{parts}
use Rattle.fitting_laws.specs.ArraysMade.{ArraysWithFit, NewArraysFit, PartsFit}
use Rattle.fitting_laws.specs.Sound.{IsSound, a_type, sound_class, sound_primitive, sound_variable}
use Rattle.fitting_laws.specs.Values.{IsValue}
use Rattle.fitting_laws.proofs.Below.{agrees-texts}
use Rattle.fitting_laws.proofs.Sound.{sound-dims, sound-variable, type-dims}

-- ---- lists of nodes

pub list-cores : (es : List Core) → list_of (cores es) ≡ es
list-cores [] = refl
list-cores (e ∷ es) = ap (λ (xs : List Core). e ∷ xs) (list-cores es)

module _ (q : CoreProgram) (body : Body) where
  -- each node of a list fits and has a property of its type
  pub data Each (P : Ty → Type 0) : List Core → Type 0 where
    none_left : Each P []
    one_left : {e : Core} {es : List Core} → ((texts : List (List ℕ)) → every (stands_once texts) e ≡ true → Fits (with_texts q texts) body e) → P (ty_of e) → Each P es → Each P (e ∷ es)

  pub one-behind : (P : Ty → Type 0) {es : List Core} {e : Core} → Each P es → ((texts : List (List ℕ)) → every (stands_once texts) e ≡ true → Fits (with_texts q texts) body e) → P (ty_of e) → Each P (es ++ e ∷ [])
  one-behind P none_left fit type = one_left fit type none_left
  one-behind P (one_left f t k) fit type = one_left f t (one-behind P k fit type)

  pub each-fit : (P : Ty → Type 0) {es : List Core} → Each P es → (texts : List (List ℕ)) → every_of (stands_once texts) (cores es) ≡ true → AllFit (with_texts q texts) body (cores es)
  each-fit P none_left texts h = fits.no_more
  each-fit P (one_left {e = e} f t k) texts h = let sides = two {a = every (stands_once texts) e} h in fits.one_more (f texts sides.0) (each-fit P k texts sides.1)

  pub each-has : (P Q : Ty → Type 0) → ((t : Ty) → P t → Q t) → {es : List Core} → Each P es → All Q (types_of (list_of (cores es)))
  each-has P Q h none_left = All-nil Q
  each-has P Q h (one_left {e = e} {es = es} f t k) = All-cons Q (ty_of e) (types_of (list_of (cores es))) (h (ty_of e) t) (each-has P Q h k)

  pub data EachValue (heads : List ClassHead) : List Part → Type 0 where
    no_parts : EachValue heads []
    more_parts : {part : Part} {parts : List Part} → IsValue q body heads part.value → EachValue heads parts → EachValue heads (part ∷ parts)

  pub each-value : (heads : List ClassHead) (parts : List Part) → PartsFit q body heads parts → EachValue heads parts
  each-value heads [] h = no_parts
  each-value heads (part ∷ parts) h = more_parts (h part first) (each-value heads parts (λ other i. h other (further i)))

  module _ (heads : List ClassHead) where
    -- ---- lengths

    abbrev IsInt : Ty → Type 0
    IsInt t = is_int t ≡ true

    abbrev Lengths : ℕ → List Core → Type 0
    Lengths n es = Each IsInt es × (length es ≡ n)

    int-length : (span : Span) (t : TypedNode) → IsValue q body heads t → (P : Core → Type 0)
        → (((texts : List (List ℕ)) → every (stands_once texts) (converted base.Int t.node) ≡ true → Fits (with_texts q texts) body (converted base.Int t.node)) → is_int (ty_of (converted base.Int t.node)) ≡ true → P (converted base.Int t.node))
        → Gives P (int_index span t)
    unfolding int_index bind check
    int-length span t v P k = by (is_int_if (promoted t.type)) refl
      where
        by : (b : Bool) → is_int_if (promoted t.type) ≡ b → Gives P (bind (check BadIndex span b) (λ u. gives (converted base.Int t.node)))
        by true e = k (converted-as q body heads t base.Int v.fits (int-operand t.type e)).node (ap is_int (converted-type base.Int t.node))
        by false e = tt

    lengths-fit : (parts : List Part) (done : List Core) (n : ℕ) → EachValue heads parts → Lengths n done → Gives (Lengths (n + length parts)) (lengths_from done parts)
    unfolding lengths_from bind
    lengths-fit [] done n no_parts k = (k.0, k.1 ∙ omega arith)
    lengths-fit (part ∷ parts) done n (more_parts v vs) k = by (int_index part.span part.value) (int-length part.span part.value v (λ e. Lengths (n + 1) (done ++ e ∷ [])) (λ fit int. (one-behind IsInt k.0 fit int, counted (converted base.Int part.value.node))))
        (λ e more. lengths-fit parts (done ++ e ∷ []) (n + 1) vs more)
      where
        counted : (e : Core) → length (done ++ e ∷ []) ≡ n + 1
        counted e = length-append done (e ∷ []) ∙ ap (λ (i : ℕ). i + 1) k.1

        by : (j : Judged Core) → Gives (λ e. Lengths (n + 1) (done ++ e ∷ [])) j
            → ((e : Core) → Lengths (n + 1) (done ++ e ∷ []) → Gives (Lengths (n + 1 + length parts)) (lengths_from (done ++ e ∷ []) parts))
            → Gives (Lengths (n + length (part ∷ parts))) (bind j (λ e. lengths_from (done ++ e ∷ []) parts))
        by (faulty fault) h f = tt
        by (gives e) h f = subst (λ (i : ℕ). Gives (Lengths i) (lengths_from (done ++ e ∷ []) parts)) (omega arith) (f e h)

    -- ---- types

    dims-sound : (t : SourceType) (n : ℕ) → IsSound q heads 255 t → dims_of t ≡ 0 → is_reifiable heads t ≡ true → n ≤ 255 → IsSound q heads 255 (with_dims t n)
    dims-sound _ n (sound_primitive {n = m} h few) e r k = sound_primitive h (omega (arith, e, k))
    dims-sound _ n (sound_class {n = m} h few args) e r k = sound_class h (omega (arith, e, k)) args
    dims-sound _ n (sound_variable h few) e r k = absurd cc

    dims-with : (t : SourceType) (n : ℕ) → dims_of t ≡ 0 → dims_of (with_dims t n) ≡ n
    dims-with (plain b m) n e = omega (arith, e)
    dims-with (of_class c ts m) n e = omega (arith, e)
    dims-with (of_variable c at m) n e = omega (arith, e)

    module _ (known : HasHeads q heads) where
      made-fits : (t : SourceType) (span : Span) (es : List Core) → IsSound q heads 255 t → Each IsInt es → 0 < length es → length es ≤ dims_of t → IsValue q body heads (array_node heads t span es)
      made-fits t span es s k some few = record {
        fits = record { node = λ texts h. fits.new_array (each-fit IsInt k texts h) (each-has IsInt IsInt (λ u x. x) k) (counted some) (enough few) (sound-variable q heads known (omega arith) s); uses = All-nil _; type = refl };
        type = a_type s;
      }
        where
          counted : 0 < length es → 1 ≤ length (list_of (cores es))
          counted h = subst (λ (xs : List Core). 1 ≤ length xs) (sym (list-cores es)) (omega (arith, h))

          enough : length es ≤ dims_of t → length (list_of (cores es)) ≤ (erased heads t).dims
          enough h = subst (λ (xs : List Core). length xs ≤ (erased heads t).dims) (sym (list-cores es)) (subst (λ (u : Ty). length es ≤ u.dims) (sym (parts heads known.bounds t (sound-dims q heads (omega arith) s))) h)

      new-arrays : (element : SourceType) (dims : ℕ) (element_span span : Span) (ps : List Part) → IsSound q heads 255 element → dims_of element ≡ 0 → 0 < length ps → EachValue heads ps
          → Gives (IsValue q body heads) (new_array heads element dims element_span span ps)
      unfolding new_array bind array_type check
      new-arrays element dims element_span span ps s flat some vs = by (lengths_from [] ps) (lengths-fit ps [] 0 vs (none_left, refl))
        where
          further : (es : List Core) → Lengths (0 + length ps) es → (b : Bool) → may_be_made heads element (length ps + dims) ≡ b
              → Gives (IsValue q body heads) (bind (bind (check BadArray element_span b) (λ u. gives (with_dims element (length ps + dims)))) (λ t. gives (array_node heads t span es)))
          further es k false e = tt
          further es k true e =
              let made = two {a = is_reifiable heads element} e in
              let few : length ps + dims ≤ 255 = let x : nat_le (length ps + dims) 255 ≡ true = made.1 in grind (arith, nat_tests) in
              let same : length es ≡ 0 + length ps = k.1 in
              let over : dims_of (with_dims element (length ps + dims)) ≡ length ps + dims = dims-with element (length ps + dims) flat in
              made-fits (with_dims element (length ps + dims)) span es (dims-sound element (length ps + dims) s flat made.0 few) k.0 (omega (arith, some, same)) (omega (arith, same, over))

          by : (j : Judged (List Core)) → Gives (Lengths (0 + length ps)) j
              → Gives (IsValue q body heads) (bind j (λ es. bind (bind (check BadArray element_span (may_be_made heads element (length ps + dims))) (λ u. gives (with_dims element (length ps + dims)))) (λ t. gives (array_node heads t span es))))
          by (faulty fault) h = tt
          by (gives es) k = further es k (may_be_made heads element (length ps + dims)) refl

      -- ---- elements

      pub element-sound : (t e : SourceType) → IsSound q heads 255 t → element_type t ≡ Some e → IsSound q heads 255 e
      element-sound (plain b (suc n)) e (sound_primitive h few) k = subst (IsSound q heads 255) (same_Some (plain b n) e k) (sound_primitive h (omega (arith, few)))
      element-sound (of_class c ts (suc n)) e (sound_class h few args) k = subst (IsSound q heads 255) (same_Some (of_class c ts n) e k) (sound_class h (omega (arith, few)) args)
      element-sound (of_variable c at (suc n)) e (sound_variable h few) k = subst (IsSound q heads 255) (same_Some (of_variable c at n) e k) (sound_variable h (omega (arith, few)))
      element-sound (plain b zero) e s k = absurd (none-some e k)
      element-sound (of_class c ts zero) e s k = absurd (none-some e k)
      element-sound (of_variable c at zero) e s k = absurd (none-some e k)

      abbrev Agrees : SourceType → Ty → Type 0
      Agrees e t = agrees q t (erased heads e) ≡ true

      elements-fit : (e : SourceType) (ps : List Part) (done : List Core) → IsSound q heads 255 e → EachValue heads ps → Each (Agrees e) done → Gives (Each (Agrees e)) (elements_from heads e done ps)
      unfolding elements_from bind
      elements-fit e [] done s no_parts k = k
      elements-fit e (part ∷ ps) done s (more_parts v vs) k = by (assigned heads e part.span part.value) (assigned_values_pass q body heads e part.span part.value known (type-dims q heads v.type) (sound-dims q heads (omega arith) s) v.fits)
          (λ n more. elements-fit e ps (done ++ n ∷ []) s vs more)
        where
          by : (j : Judged Core) → Gives (PassesAs q body heads e) j → ((n : Core) → Each (Agrees e) (done ++ n ∷ []) → Gives (Each (Agrees e)) (elements_from heads e (done ++ n ∷ []) ps))
              → Gives (Each (Agrees e)) (bind j (λ n. elements_from heads e (done ++ n ∷ []) ps))
          by (faulty fault) h f = tt
          by (gives n) h f = f n (one-behind (Agrees e) k h.node (sym (agrees-texts q [] (ty_of n) (erased heads e)) ∙ h.agree []))

      pub elements-node-fits : (t e : SourceType) (span : Span) (es : List Core) → IsSound q heads 255 t → element_type t ≡ Some e → Each (Agrees e) es → IsValue q body heads (elements_node heads t span es)
      elements-node-fits t e span es s is k = record {
        fits = record {
          node = λ texts h. subst (λ (u : Ty). Fits (with_texts q texts) body (node (core.ArrayOf (cores es)) u span span)) (sym (element-is heads known.bounds t e is (sound-dims q heads (omega arith) s)).is)
              (fits.array_with (each-fit (Agrees e) k texts h) (each-has (Agrees e) (λ u. agrees (with_texts q texts) u (erased heads e) ≡ true) (λ u x. agrees-texts q texts u (erased heads e) ∙ x) k)
              (sound-variable q heads known (omega arith) (element-sound t e s is)));
          uses = All-nil _;
          type = refl;
        };
        type = a_type s;
      }

      pub elements-if-fit : (t : SourceType) (ps : List Part) → IsSound q heads 255 t → EachValue heads ps → (o : Option SourceType) → element_type t ≡ o
          → Gives (λ es. (e : SourceType) → o ≡ Some e → Each (Agrees e) es) (elements_if heads o ps)
      elements-if-fit t ps s vs None is = λ e k. absurd (none-some e k)
      elements-if-fit t ps s vs (Some e) is = by (elements_from heads e [] ps) (elements-fit e ps [] (element-sound t e s is) vs none_left)
        where
          by : (j : Judged (List Core)) → Gives (Each (Agrees e)) j → Gives (λ es. (d : SourceType) → Some e ≡ Some d → Each (Agrees d) es) j
          by (faulty fault) h = tt
          by (gives es) h = λ d k. subst (λ (u : SourceType). Each (Agrees u) es) (same_Some e d k) h

      arrays-with : (t : SourceType) (span : Span) (ps : List Part) → IsSound q heads 255 t → EachValue heads ps → Gives (IsValue q body heads) (array_of heads t span ps)
      unfolding array_of bind need
      arrays-with t span ps s vs = by (element_type t) refl (elements_if heads (element_type t) ps) (elements-if-fit t ps s vs (element_type t) refl)
        where
          further : (o : Option SourceType) → element_type t ≡ o → (es : List Core) → ((e : SourceType) → o ≡ Some e → Each (Agrees e) es)
              → Gives (IsValue q body heads) (bind (need BadArray span (initialized heads t o)) (λ e. gives (elements_node heads t span es)))
          further None is es k = tt
          further (Some e) is es k = bool_cases (λ b. Gives (IsValue q body heads) (bind (need BadArray span (if b then Some e else None)) (λ e. gives (elements_node heads t span es)))) (is_reifiable heads t)
              (λ _. elements-node-fits t e span es s is (k e refl)) (λ _. tt)

          by : (o : Option SourceType) → element_type t ≡ o → (j : Judged (List Core)) → Gives (λ es. (e : SourceType) → o ≡ Some e → Each (Agrees e) es) j
              → Gives (IsValue q body heads) (bind j (λ es. bind (need BadArray span (initialized heads t o)) (λ e. gives (elements_node heads t span es))))
          by o is (faulty fault) h = tt
          by o is (gives es) h = further o is es h

pub new_arrays_fit : (q : CoreProgram) (body : Body) (heads : List ClassHead) → NewArraysFit q body heads
new_arrays_fit q body heads element dims element_span span ps known s flat some k = new-arrays q body heads known element dims element_span span ps s flat some (each-value q body heads ps k)

pub arrays_with_fit : (q : CoreProgram) (body : Body) (heads : List ClassHead) → ArraysWithFit q body heads
arrays_with_fit q body heads t span ps known s k = arrays-with q body heads known t span ps s (each-value q body heads ps k)
