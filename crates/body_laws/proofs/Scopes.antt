-- Scopes of a body stand in the core program as they grow.
use Rattle.std.proofs.Common.{◌≡◌, ℕ, List, [], ◌∷◌, Some, refl, sym, ap, ◌∙◌, subst}
use Rattle.std.specs.Prelude.{Bool, slice_get, if◌then◌else◌}
use Rattle.je_base.specs.declared.span.NameId.{NameId}
use Rattle.je_core.specs.Core.{CoreProgram}
use Rattle.je_ast.specs.declared.name.Identifier.{Identifier}
use Rattle.je_classes.specs.Members.{In, further}
use Rattle.je_classes.proofs.Lists.{bool_cases}
use Rattle.je_classes.proofs.Sets.{by_either}
use Rattle.je_fitting.specs.Expressions.{Body}
use Rattle.je_scopes.specs.Headers.{has_name, name_in, site_at}
use Rattle.je_scopes.specs.Looks.{Look, or_further}
use Rattle.je_scopes.specs.Looks as look
use Rattle.je_scopes.specs.Scope.{first_named, in_scope, or_full_name, qualified}
use Rattle.je_scopes.specs.Settled.{settled}
use Rattle.je_scopes.specs.Sites.{Context}
use Rattle.source_types.specs.Erasure.{erased}
use Rattle.name_typing.specs.Program.{Frame, LocalVariable, Program, frames}
use Rattle.name_typing.specs.Qualified.{class_named, part_in}
use Rattle.body_types.specs.BodyTypes.{look_at}
use Rattle.body_typing.specs.Bodies.{with_classes_of, with_local, with_local_class}
use Rattle.body_typing.specs.Expressions.{Known}
use Rattle.body_typing.specs.FinalVariables.{Scope}
use Rattle.fitting_laws.specs.Represented.{IsThere, LocalIsSound, Represents}
use Rattle.fitting_laws.proofs.Lists.{in-cases}
use Rattle.body_laws.specs.Bodies.{IsInBody}

module _ (p : Program) (k : Known) (q : CoreProgram) (body : Body) (first : Scope) where
  abbrev InBody : Scope → Type 0
  InBody s = IsInBody p k q body first s

  -- ---- one local more

  pub with-local : (is_given : Bool) (v : LocalVariable) (s : Scope) → InBody s → LocalIsSound p q v → slice_get body.locals v.number ≡ Some (erased p.heads v.type) → InBody (with_local is_given v s)
  with-local is_given v s h sound there = record {
    within = record { class = h.within.class; context = h.within.context; initializer = h.within.initializer; round = h.within.round; is_constructor = h.within.is_constructor };
    stands = record {
      place = record {
        class = h.stands.place.class;
        there = h.stands.place.there;
        this = h.stands.place.this;
        locals = λ u i. by_either (λ e. subst (λ (w : LocalVariable). slice_get body.locals w.number ≡ Some (erased p.heads w.type)) (sym e) there) (λ r. h.stands.place.locals u r) (in-cases v u s.place.here.locals i);
        sound = sound-in;
        round = h.stands.place.round;
        named = h.stands.place.named;
        written = h.stands.place.written;
      };
      builds = h.stands.builds;
      starts = h.stands.starts;
    };
  }
    where
      here-sound : (u : LocalVariable) → In (v ∷ s.place.here.locals) u → LocalIsSound p q u
      here-sound u i = by_either (λ e. subst (LocalIsSound p q) (sym e) sound) (λ r. h.stands.place.sound s.place.here u Rattle.je_classes.specs.Members.first r) (in-cases v u s.place.here.locals i)

      sound-in : (f : Frame) (u : LocalVariable) → In (frames (with_local is_given v s).place) f → In f.locals u → LocalIsSound p q u
      sound-in f u i m = by_either (λ e. here-sound u (subst (λ (g : Frame). In g.locals u) e m)) (λ r. h.stands.place.sound f u (further r) m) (in-cases (with_local is_given v s).place.here f s.place.round i)

  -- ---- one local class more

  module _ (represents : Represents p q) where
    qualified-there : (l : Look) (is : List Identifier) (d : ℕ) → ((c : ℕ) → l ≡ look.a_class c → IsThere q c) → qualified p.source (settled p.source) l is ≡ look.a_class d → IsThere q d
    qualified-there l [] d h e = h d e
    qualified-there (look.a_class c) (i ∷ is) d h e = qualified-there _ is d (λ x f. represents.members i.name c x f) e
    qualified-there (look.a_variable c at) (i ∷ is) d h e = qualified-there look.unclear is d (λ x f. absurd cc) e
    qualified-there look.nothing (i ∷ is) d h e = qualified-there look.nothing is d h e
    qualified-there look.waits (i ∷ is) d h e = qualified-there look.waits is d h e
    qualified-there look.unclear (i ∷ is) d h e = qualified-there look.unclear is d h e

    module _ (c : ℕ) (there : IsThere q c) (s : Scope) (h : InBody s) where
      abbrev old : NameId → Look
      old x = or_further (first_named p.source x s.place.here.local_classes) (in_scope p.source (settled p.source) s.place.here.class (part_in s.place.here.context) x)

      abbrev new : Bool → NameId → Look
      new b x = or_further (if b then look.a_class c else first_named p.source x s.place.here.local_classes) (in_scope p.source (settled p.source) s.place.here.class (part_in s.place.here.context) x)

      abbrev has : NameId → Bool
      has x = has_name (name_in (site_at p.source.sites c).written) x

      own-class : (d : ℕ) → look.a_class c ≡ look.a_class d → IsThere q d
      own-class d e = subst (IsThere q) (same-class e) there
        where
          class_of : Look → ℕ
          class_of (look.a_class x) = x
          class_of l = c

          same-class : look.a_class c ≡ look.a_class d → c ≡ d
          same-class f = ap class_of f

      names : (x : NameId) (d : ℕ) → class_named p (with_local_class c s).place.here x ≡ look.a_class d → IsThere q d
      names x d = bool_cases (λ b. new b x ≡ look.a_class d → IsThere q d) (has x) (λ _ e. own-class d e) (λ _ e. h.stands.place.named x d e)

      written : (parts : List Identifier) (d : ℕ) → look_at p (with_local_class c s).place.here parts ≡ look.a_class d → IsThere q d
      written [] d e = absurd cc
      written (i ∷ is) d f = bool_cases (λ b. or_full_name p.source (i ∷ is) (new b i.name) (qualified p.source (settled p.source) (new b i.name) is) ≡ look.a_class d → IsThere q d) (has i.name)
          (λ _ e. qualified-there (look.a_class c) is d (λ x g. own-class x g) e) (λ _ e. h.stands.place.written (i ∷ is) d e) f

      pub with-class : InBody (with_local_class c s)
      with-class = record {
        within = record { class = h.within.class; context = h.within.context; initializer = h.within.initializer; round = h.within.round; is_constructor = h.within.is_constructor };
        stands = record {
          place = record {
            class = h.stands.place.class;
            there = h.stands.place.there;
            this = h.stands.place.this;
            locals = h.stands.place.locals;
            sound = λ f u i m. by_either (λ e. h.stands.place.sound s.place.here u Rattle.je_classes.specs.Members.first (subst (λ (g : Frame). In g.locals u) e m)) (λ r. h.stands.place.sound f u (further r) m)
                (in-cases (with_local_class c s).place.here f s.place.round i);
            round = h.stands.place.round;
            named = names;
            written = written;
          };
          builds = h.stands.builds;
          starts = h.stands.starts;
        };
      }

  -- ---- the locals of one scope, and the local classes of another

  module _ (other s : Scope) (o : InBody other) (h : InBody s) where
    abbrev classes : NameId → Look
    classes x = first_named p.source x other.place.here.local_classes

    abbrev seen : ℕ → Context → NameId → Look
    seen c context x = or_further (classes x) (in_scope p.source (settled p.source) c (part_in context) x)

    same-names : (x : NameId) → class_named p (with_classes_of other s).place.here x ≡ class_named p other.place.here x
    same-names x = ap (λ (c : ℕ). seen c s.place.here.context x) (h.within.class ∙ sym o.within.class) ∙ ap (λ (m : Context). seen other.place.here.class m x) (h.within.context ∙ sym o.within.context)

    same-looks : (parts : List Identifier) → look_at p (with_classes_of other s).place.here parts ≡ look_at p other.place.here parts
    same-looks [] = refl
    same-looks (i ∷ is) = ap (λ (l : Look). or_full_name p.source (i ∷ is) l (qualified p.source (settled p.source) l is)) (same-names i.name)

    pub with-classes-of : InBody (with_classes_of other s)
    with-classes-of = record {
      within = record { class = h.within.class; context = h.within.context; initializer = h.within.initializer; round = h.within.round; is_constructor = h.within.is_constructor };
      stands = record {
        place = record {
          class = h.stands.place.class;
          there = h.stands.place.there;
          this = h.stands.place.this;
          locals = h.stands.place.locals;
          sound = λ f u i m. by_either (λ e. h.stands.place.sound s.place.here u Rattle.je_classes.specs.Members.first (subst (λ (g : Frame). In g.locals u) e m)) (λ r. h.stands.place.sound f u (further r) m)
              (in-cases (with_classes_of other s).place.here f s.place.round i);
          round = h.stands.place.round;
          named = λ x c e. o.stands.place.named x c (sym (same-names x) ∙ e);
          written = λ parts c e. o.stands.place.written parts c (sym (same-looks parts) ∙ e);
        };
        builds = h.stands.builds;
        starts = h.stands.starts;
      };
    }
