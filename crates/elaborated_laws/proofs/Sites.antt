-- The walk over units puts classes behind those of the library that are written, enums under their sort.
use Rattle.std.proofs.Common.{arith, ◌≡◌, ℕ, zero, suc, ◌+◌, ◌-◌, ◌<◌, ◌≤◌, ◌⊎◌, inl, inr, List, [], ◌∷◌, ◌++◌, length, Some, refl, sym, ap, ◌∙◌, subst, append-nil, append_assoc, length-append}
use Rattle.std.specs.Prelude.{Bool, drop, false, true, map, slice_get}
use Rattle.std.proofs.lemmas.Bool.{cases_lt}
use Rattle.std.proofs.lemmas.List.{length-map}
use Rattle.std.proofs.lemmas.Option.{none-some, same_Some, slice_get_past, slice_get_within}
use Rattle.je_core.specs.declared.program.Sort.{Sort}
use Rattle.je_core.specs.declared.program.Sort.TheVariants as sort
use Rattle.je_table.specs.Library.{all_classes, classes as class_rows}
use Rattle.je_scopes.specs.Laws.{HasLibrary}
use Rattle.je_scopes.specs.Settled.{settled}
use Rattle.je_scopes.proofs.Ranges.{member-below}
use Rattle.je_ast.specs.Trees.{Expression, Expressions, MaybeExpression, Statement, Statements, ForInitializer, Variables, Groups, Labels, Catches, Member, Members, MaybeBlock, ConstructorInvocation, Declaration, CompilationUnit}
use Rattle.je_ast.specs.Trees as tree
use Rattle.je_classes.specs.Members.{In}
use Rattle.je_classes.proofs.Sets.{by_either, in-either}
use Rattle.je_scopes.specs.Headers.{constants_in, is_guest, is_interface_sort, is_local_sort, or_nothing, site_at}
use Rattle.je_scopes.specs.Sites.{Written, declared, behind_new, in_library, Spot, Site, instance, constructor_arguments, at_top, inside, behind, behind_local, site, in_expression, in_expressions, in_optional, in_statement, in_block, in_start, in_variables, in_groups, in_labels, in_catches, in_members, in_member, in_body, in_first, in_declaration, in_declarations, in_units, library_sites, sites}
use Rattle.declarations.specs.Declarations.{is_enum_sort}
use Rattle.name_walk.proofs.Standing.{slice_get-append}
use Rattle.fitting_laws.proofs.Lists.{in-cases, in-one}
use Rattle.je_scopes.specs.Source.{source}
use Rattle.class_typing.specs.Programs.{library_count}
use Rattle.elaborated_laws.specs.Laws.{SourcesStand}
use Rattle.elaborated_laws.specs.Premises.{IsEnumDeclaration, LocalsStandWithin, RoundsComeBefore, RoundsNest, is_interface_written}
use Rattle.elaborated_laws.proofs.Declared.{library-many}
use Rattle.elaborated_laws.proofs.Lists.{behind as behind-others, in-got, later, placed}

abbrev is_enum_written : Written → Bool
is_enum_written (declared (tree.enum_declaration ms id constants span)) = true
is_enum_written w = false

pub record IsWritten (s : Site) : Type 0 where
  pub guest : is_guest s.written ≡ true
  pub enum : is_enum_sort s.sort ≡ is_enum_written s.written
  pub interface : is_interface_sort s.sort ≡ is_interface_written s.written

-- Of classes that are put behind others, counted from a number on: one stands directly in the body of another of them.
record Nested (start : ℕ) (more : List Site) (round : List ℕ) : Type 0 where
  place : ℕ
  outer : Site
  there : slice_get more place ≡ Some outer
  is : round ≡ (start + place) ∷ outer.spot.round

-- something stands round
abbrev Inside : List ℕ → Type 0
Inside round = ¬ (round ≡ [])

-- that something is round a declaration, unless that stands at the top, where it is no local one
abbrev Known : Bool → List ℕ → Type 0
Known true round = Unit {0}
Known false round = Inside round

-- Classes that are put behind others stand in the bodies of these classes, or of such that stand among them before. Where
-- something is round them (`K`), local classes stand in a body.
record AddsWhere (K : Type 0) (round : List ℕ) (before after : List Site) : Type 0 where
  more : List Site
  is : after ≡ before ++ more
  each : (s : Site) → In more s → IsWritten s
  locals : K → (s : Site) → In more s → is_local_sort s.sort ≡ true → Inside s.spot.round
  nested : (s : Site) → In more s → (s.spot.round ≡ round) ⊎ Nested (length before) more s.spot.round
  rounds : (n : ℕ) (s : Site) → slice_get more n ≡ Some s → (d : ℕ) → In s.spot.round d →
      In round d ⊎ ((length before ≤ d) × (d < length before + n))

abbrev Adds : List ℕ → List Site → List Site → Type 0
Adds round = AddsWhere (Inside round) round

same : {K : Type 0} {r : List ℕ} (b : List Site) → AddsWhere K r b b
same b = record {
  more = [];
  is = sym (append-nil b);
  each = λ s q. elim q [ ];
  locals = λ k s q. elim q [ ];
  nested = λ s q. elim q [ ];
  rounds = λ n s e. absurd (none-some s e);
}

nested-first : {start : ℕ} (xs ys : List Site) {r : List ℕ} → Nested start xs r → Nested start (xs ++ ys) r
nested-first xs ys n = record {
  place = n.place;
  outer = n.outer;
  there = slice_get-append xs ys n.place (slice_get_within xs n.place n.outer n.there) ∙ n.there;
  is = n.is;
}

nested-behind : {start next : ℕ} (xs ys : List Site) {r : List ℕ} → next ≡ start + length xs → Nested next ys r →
    Nested start (xs ++ ys) r
nested-behind {start = start} xs ys e n = record {
  place = length xs + n.place;
  outer = n.outer;
  there = behind-others xs ys n.place ∙ n.there;
  is = n.is ∙ ap (λ d. d ∷ n.outer.spot.round) (omega (arith, e));
}

-- the other ones in further bodies, of classes that were put there before
joined : {K M : Type 0} {r more-round : List ℕ} {a b c : List Site} → (K → M) →
    ((d : ℕ) → In more-round d → In r d ⊎ ((length a ≤ d) × (d < length b))) → (p : AddsWhere K r a b) →
    ((rs : List ℕ) → rs ≡ more-round → (rs ≡ r) ⊎ Nested (length a) p.more rs) → AddsWhere M more-round b c →
    AddsWhere K r a c
joined {r = r} {more-round = more-round} {a = a} {b = b} {c = c} known f p g q = record {
  more = p.more ++ q.more;
  is = q.is ∙ ap (λ xs. xs ++ q.more) p.is ∙ append_assoc a p.more q.more;
  each = λ s x. by_either (p.each s) (q.each s) (in-either p.more x);
  locals = λ k s x. by_either (p.locals k s) (q.locals (known k) s) (in-either p.more x);
  nested = λ s x. by_either
      (λ i. nested-before s.spot.round (p.nested s i))
      (λ i. by_either {Z = (s.spot.round ≡ r) ⊎ Nested (length a) (p.more ++ q.more) s.spot.round}
      (λ e. nested-before s.spot.round (g s.spot.round e)) (λ n. inr (nested-behind p.more q.more counted n)) (q.nested s i))
      (in-either p.more x);
  rounds = λ n s e d x. by_either
      (λ l. p.rounds n s (sym (slice_get-append p.more q.more n l) ∙ e) d x)
      (λ le. by_either
      (λ i. by_either {Z = In r d ⊎ ((length a ≤ d) × (d < length a + n))} (λ k. inl k)
      (λ k. inr (k.0, omega (arith, k.1, counted, le))) (f d i))
      (λ k. inr (omega (arith, k.0, counted), omega (arith, k.1, counted, le)))
      (q.rounds (n - length p.more) s (sym (later p.more q.more n le) ∙ e) d x))
      (cases_lt n (length p.more));
}
  where
    counted : length b ≡ length a + length p.more
    counted = ap length p.is ∙ length-append a p.more

    nested-before : (rs : List ℕ) → (rs ≡ r) ⊎ Nested (length a) p.more rs → (rs ≡ r) ⊎ Nested (length a) (p.more ++ q.more) rs
    nested-before rs (inl e) = inl e
    nested-before rs (inr n) = inr (nested-first p.more q.more n)

then : {K : Type 0} {r : List ℕ} {a b c : List Site} → AddsWhere K r a b → AddsWhere K r b c → AddsWhere K r a c
then p q = joined (λ k. k) (λ d i. inl i) p (λ rs e. inl e) q

one-more : {K : Type 0} (b : List Site) (s : Site) → IsWritten s → (K → is_local_sort s.sort ≡ true → Inside s.spot.round) →
    AddsWhere K s.spot.round b (b ++ s ∷ [])
one-more b s w local = record {
  more = s ∷ [];
  is = refl;
  each = λ t q. subst IsWritten (sym (in-one s t q)) w;
  locals = λ k t q. subst (λ (u : Site). is_local_sort u.sort ≡ true → Inside u.spot.round) (sym (in-one s t q)) (local k);
  nested = λ t q. inl (ap (λ (u : Site). u.spot.round) (in-one s t q));
  rounds = λ n t e d q. inl (subst (λ (u : Site). In u.spot.round d) (in-one s t (in-got (s ∷ []) n t e)) q);
}

-- A class, what stands beside it, and what stands in its body.
with-body : {K : Type 0} {m c : List Site} (b : List Site) (s : Site) → IsWritten s →
    (K → is_local_sort s.sort ≡ true → Inside s.spot.round) → AddsWhere K s.spot.round (b ++ s ∷ []) m →
    Adds (length b ∷ s.spot.round) m c → AddsWhere K s.spot.round b c
unfolding then joined one-more
with-body {m = m} b s w local beside within =
    let p = then (one-more b s w local) beside in
    joined (λ k e. absurd cc)
    (λ d i. by_either {Z = In s.spot.round d ⊎ ((length b ≤ d) × (d < length m))}
    (λ e. inr (omega (arith, e), omega (arith, e, longer))) (λ k. inl k) (in-cases (length b) d s.spot.round i)) p
    (λ rs e. inr (record { place = 0; outer = s; there = refl; is = e ∙ ap (λ d. d ∷ s.spot.round) start })) within
  where
    start : length b ≡ length b + 0
    start = omega arith

    longer : length b < length m
    longer = omega (arith, ap length beside.is, length-append (b ++ s ∷ []) beside.more, length-append b (s ∷ []))

behind-round : (s : Spot) (x : Statement) (n : ℕ) → (behind s x n).round ≡ s.round
behind-round s (tree.block opening body closing) n = refl
behind-round s (tree.local start is_final t vs span) n = refl
behind-round s (tree.local_class d) n = refl
behind-round s (tree.empty span) n = refl
behind-round s (tree.labelled id b span) n = refl
behind-round s (tree.if_only word e b span) n = refl
behind-round s (tree.if_else word e b c span) n = refl
behind-round s (tree.while word e b span) n = refl
behind-round s (tree.do_while word b e span) n = refl
behind-round s (tree.for word start condition steps b span) n = refl
behind-round s (tree.for_each word is_final t id e b span) n = refl
behind-round s (tree.switch word e gs span) n = refl
behind-round s (tree.break word label span) n = refl
behind-round s (tree.continue word label span) n = refl
behind-round s (tree.return word e span) n = refl
behind-round s (tree.throw word e span) n = refl
behind-round s (tree.try word opening b closing cs span) n = refl
behind-round s (tree.try_finally word opening b closing cs at opening' c closing' span) n = refl
behind-round s (tree.expression_statement start e span) n = refl

mutual
  adds_expression : (s : Spot) (x : Expression) (b : List Site) → Adds s.round b (in_expression s x b)
  adds_expression s (tree.literal l span) b = same b
  adds_expression s (tree.name id) b = same b
  adds_expression s (tree.this span) b = same b
  adds_expression s (tree.outer_this q word span) b = same b
  adds_expression s (tree.parens x span) b = adds_expression s x b
  adds_expression s (tree.select x id span) b = adds_expression s x b
  adds_expression s (tree.super_select word id span) b = same b
  adds_expression s (tree.call id xs span) b = adds_expressions s xs b
  adds_expression s (tree.call_on x id xs span) b = then (adds_expression s x b) (adds_expressions s xs (in_expression s x b))
  adds_expression s (tree.super_call word id xs span) b = adds_expressions s xs b
  adds_expression s (tree.index x y span) b = then (adds_expression s x b) (adds_expression s y (in_expression s x b))
  adds_expression s (tree.new_object word t xs span) b = adds_expressions s xs b
  adds_expression s (tree.new_anonymous word t xs body span) b =
      with-body b (site (behind_new word t body) sort.Anonymous s) (record { guest = refl; enum = refl; interface = refl }) (λ h l. h)
      (adds_expressions s xs (b ++ site (behind_new word t body) sort.Anonymous s ∷ []))
      (adds_members false (inside (length b) s instance) body (in_expressions s xs (b ++ site (behind_new word t body) sort.Anonymous s ∷ [])))
  adds_expression s (tree.new_array t xs dims span) b = adds_expressions s xs b
  adds_expression s (tree.new_array_of t dims x span) b = adds_expression s x b
  adds_expression s (tree.array_init xs span) b = adds_expressions s xs b
  adds_expression s (tree.cast t x span) b = adds_expression s x b
  adds_expression s (tree.prefix o at x span) b = adds_expression s x b
  adds_expression s (tree.postfix o at x span) b = adds_expression s x b
  adds_expression s (tree.binary o at x y span) b = then (adds_expression s x b) (adds_expression s y (in_expression s x b))
  adds_expression s (tree.instance_of at x t span) b = adds_expression s x b
  adds_expression s (tree.conditional at x y z span) b = then (adds_expression s x b) (then (adds_expression s y (in_expression s x b)) (adds_expression s z (in_expression s y (in_expression s x b))))
  adds_expression s (tree.assign o at x y span) b = then (adds_expression s x b) (adds_expression s y (in_expression s x b))

  adds_expressions : (s : Spot) (xs : Expressions) (b : List Site) → Adds s.round b (in_expressions s xs b)
  adds_expressions s tree.no_expressions b = same b
  adds_expressions s (tree.more_expressions x xs) b = then (adds_expression s x b) (adds_expressions s xs (in_expression s x b))

  adds_optional : (s : Spot) (x : MaybeExpression) (b : List Site) → Adds s.round b (in_optional s x b)
  adds_optional s tree.no_expression b = same b
  adds_optional s (tree.an_expression x) b = adds_expression s x b

  adds_statement : (s : Spot) (x : Statement) (b : List Site) → Adds s.round b (in_statement s x b)
  adds_statement s (tree.block opening body closing) b = adds_block s body b
  adds_statement s (tree.local start is_final t vs span) b = adds_variables s vs b
  adds_statement s (tree.local_class d) b = adds_declaration false sort.Local refl refl (behind_local (length b) s) (λ h l. h) d b
  adds_statement s (tree.empty span) b = same b
  adds_statement s (tree.labelled id x span) b = adds_statement s x b
  adds_statement s (tree.if_only word c x span) b = then (adds_expression s c b) (adds_statement s x (in_expression s c b))
  adds_statement s (tree.if_else word c x y span) b = then (adds_expression s c b) (then (adds_statement s x (in_expression s c b)) (adds_statement s y (in_statement s x (in_expression s c b))))
  adds_statement s (tree.while word c x span) b = then (adds_expression s c b) (adds_statement s x (in_expression s c b))
  adds_statement s (tree.do_while word x c span) b = then (adds_statement s x b) (adds_expression s c (in_statement s x b))
  adds_statement s (tree.for word start c steps x span) b = then (adds_start s start b) (then (adds_optional s c (in_start s start b)) (then (adds_expressions s steps (in_optional s c (in_start s start b)))
      (adds_statement s x (in_expressions s steps (in_optional s c (in_start s start b))))))
  adds_statement s (tree.for_each word is_final t id c x span) b = then (adds_expression s c b) (adds_statement s x (in_expression s c b))
  adds_statement s (tree.switch word c gs span) b = then (adds_expression s c b) (adds_groups s gs (in_expression s c b))
  adds_statement s (tree.break word label span) b = same b
  adds_statement s (tree.continue word label span) b = same b
  adds_statement s (tree.return word c span) b = adds_optional s c b
  adds_statement s (tree.throw word c span) b = adds_expression s c b
  adds_statement s (tree.try word opening x closing cs span) b = then (adds_block s x b) (adds_catches s cs (in_block s x b))
  adds_statement s (tree.try_finally word opening x closing cs at opening' y closing' span) b = then (adds_block s x b) (then (adds_catches s cs (in_block s x b)) (adds_block s y (in_catches s cs (in_block s x b))))
  adds_statement s (tree.expression_statement start c span) b = adds_expression s c b

  adds_block : (s : Spot) (xs : Statements) (b : List Site) → Adds s.round b (in_block s xs b)
  adds_block s tree.no_statements b = same b
  adds_block s (tree.more_statements x xs) b = then (adds_statement s x b)
      (subst (λ r. Adds r (in_statement s x b) (in_block (behind s x (length b)) xs (in_statement s x b))) (behind-round s x (length b))
      (adds_block (behind s x (length b)) xs (in_statement s x b)))

  adds_start : (s : Spot) (x : ForInitializer) (b : List Site) → Adds s.round b (in_start s x b)
  adds_start s (tree.locals is_final t vs) b = adds_variables s vs b
  adds_start s (tree.steps xs) b = adds_expressions s xs b

  adds_variables : (s : Spot) (xs : Variables) (b : List Site) → Adds s.round b (in_variables s xs b)
  adds_variables s tree.no_variables b = same b
  adds_variables s (tree.more_variables id dims x xs) b = then (adds_optional s x b) (adds_variables s xs (in_optional s x b))

  adds_groups : (s : Spot) (xs : Groups) (b : List Site) → Adds s.round b (in_groups s xs b)
  adds_groups s tree.no_groups b = same b
  adds_groups s (tree.more_groups ls body gs) b = then (adds_labels s ls b) (then (adds_block s body (in_labels s ls b)) (adds_groups s gs (in_block s body (in_labels s ls b))))

  adds_labels : (s : Spot) (xs : Labels) (b : List Site) → Adds s.round b (in_labels s xs b)
  adds_labels s tree.no_labels b = same b
  adds_labels s (tree.case_label x ls) b = then (adds_expression s x b) (adds_labels s ls (in_expression s x b))
  adds_labels s (tree.default_label word ls) b = adds_labels s ls b

  adds_catches : (s : Spot) (xs : Catches) (b : List Site) → Adds s.round b (in_catches s xs b)
  adds_catches s tree.no_catches b = same b
  adds_catches s (tree.more_catches is_final class id opening x closing cs) b = then (adds_block s x b) (adds_catches s cs (in_block s x b))

  adds_members : (i : Bool) (s : Spot) (xs : Members) (b : List Site) → Adds s.round b (in_members i s xs b)
  adds_members i s tree.no_members b = same b
  adds_members i s (tree.more_members m xs) b = then (adds_member i s m b) (adds_members i s xs (in_member i s m b))

  adds_member : (i : Bool) (s : Spot) (m : Member) (b : List Site) → Adds s.round b (in_member i s m b)
  adds_member i s (tree.member_type d) b = adds_declaration false sort.Class refl refl _ (λ h l. absurd cc) d b
  adds_member i s (tree.field mods t vs span) b = adds_variables _ vs b
  adds_member i s (tree.method mods t id fs ts body span) b = adds_body _ body b
  adds_member i s (tree.constructor mods id fs ts first opening body closing span) b = then (adds_first (record s { context = constructor_arguments }) first b) (adds_block s body (in_first (record s { context = constructor_arguments }) first b))
  adds_member i s (tree.initializer word opening body closing span) b = adds_block _ body b

  adds_body : (s : Spot) (x : MaybeBlock) (b : List Site) → Adds s.round b (in_body s x b)
  adds_body s tree.no_block b = same b
  adds_body s (tree.a_block opening body closing) b = adds_block s body b

  adds_first : (s : Spot) (x : ConstructorInvocation) (b : List Site) → Adds s.round b (in_first s x b)
  adds_first s tree.implicit b = same b
  adds_first s (tree.explicit is_super word xs) b = adds_expressions s xs b

  adds_declaration : (is_top : Bool) (how : Sort) → is_enum_sort how ≡ false → is_interface_sort how ≡ false → (s : Spot) →
      (Known is_top s.round → is_local_sort how ≡ true → Inside s.round) → (d : Declaration) (b : List Site) →
      AddsWhere (Known is_top s.round) s.round b (in_declaration how s d b)
  adds_declaration is_top how plain no-interface s local (tree.class_declaration mods id ps above interfaces body span) b =
      let x = site (declared (tree.class_declaration mods id ps above interfaces body span)) how s in
      with-body b x (record { guest = refl; enum = plain; interface = no-interface }) local (same (b ++ x ∷ []))
      (adds_members false (inside (length b) s instance) body (b ++ x ∷ []))
  adds_declaration is_top how plain no-interface s local (tree.interface_declaration mods id ps interfaces body span) b =
      let x = site (declared (tree.interface_declaration mods id ps interfaces body span)) sort.Interface s in
      with-body b x (record { guest = refl; enum = refl; interface = refl }) (λ k l. absurd cc) (same (b ++ x ∷ []))
      (adds_members true (inside (length b) s instance) body (b ++ x ∷ []))
  adds_declaration is_top how plain no-interface s local (tree.enum_declaration mods id constants span) b =
      one-more b (site (declared (tree.enum_declaration mods id constants span)) sort.Enum s)
      (record { guest = refl; enum = refl; interface = refl }) (λ k l. absurd cc)

all-declarations : (n : ℕ) (ds : List Declaration) (b : List Site) → AddsWhere (Unit {0}) [] b (in_declarations n ds b)
all-declarations n [] b = same b
all-declarations n (d ∷ ds) b =
    then (adds_declaration true sort.Class refl refl (at_top n) (λ k l. absurd cc) d b) (all-declarations n ds (in_declaration sort.Class (at_top n) d b))

all-units : (n : ℕ) (us : List CompilationUnit) (b : List Site) → AddsWhere (Unit {0}) [] b (in_units n us b)
all-units n [] b = same b
all-units n (u ∷ us) b = then (all-declarations n u.declarations b) (all-units (suc n) us (in_declarations n u.declarations b))

-- ---- a class of a program of units

abbrev unwritten-site : Site
unwritten-site = site in_library sort.Class (at_top 0)

all-alike : {A : Type 0} (xs : List A) (c : ℕ) → or_nothing (slice_get (map (λ x. unwritten-site) xs) c) ≡ unwritten-site
all-alike [] c = refl
all-alike (x ∷ xs) zero = refl
all-alike (x ∷ xs) (suc c) = all-alike xs c

module _ (units : List CompilationUnit) where
  added : AddsWhere (Unit {0}) [] library_sites (in_units 0 units library_sites)
  added = all-units 0 units library_sites

  library-site : (c : ℕ) → c < length library_sites → site_at (sites units) c ≡ unwritten-site
  unfolding sites
  library-site c l =
      ap (λ ss. site_at ss c) added.is
      ∙ ap or_nothing (slice_get-append library_sites added.more c l)
      ∙ all-alike all_classes c

  guest-site : (c : ℕ) → length library_sites ≤ c → c < length (sites units) → IsWritten (site_at (sites units) c)
  unfolding sites
  guest-site c le l =
      let s = placed (in_units 0 units library_sites) c l in
      let there : slice_get added.more (c - length library_sites) ≡ Some s.element =
      sym (later library_sites added.more c le) ∙ ap (λ ss. slice_get ss c) (sym added.is) ∙ s.is in
      subst IsWritten (sym (ap or_nothing s.is)) (added.each s.element (in-got added.more (c - length library_sites) s.element there))

  -- the classes round it are written too, before it
  guest-rounds : (c : ℕ) → length library_sites ≤ c → c < length (sites units) → (d : ℕ) →
      In (site_at (sites units) c).spot.round d → (length library_sites ≤ d) × (d < c)
  unfolding sites
  guest-rounds c le l d q =
      let s = placed (in_units 0 units library_sites) c l in
      let there : slice_get added.more (c - length library_sites) ≡ Some s.element =
      sym (later library_sites added.more c le) ∙ ap (λ ss. slice_get ss c) (sym added.is) ∙ s.is in
      by_either (λ i. elim i [ ]) (λ k. (k.0, omega (arith, k.1, le)))
      (added.rounds (c - length library_sites) s.element there d
      (subst (λ (t : Site). In t.spot.round d) (ap or_nothing s.is) q))

  -- each of these is directly in the body of the one that comes next
  guest-nested : (c : ℕ) → length library_sites ≤ c → c < length (sites units) → (d : ℕ) (ds : List ℕ) →
      (site_at (sites units) c).spot.round ≡ d ∷ ds → (site_at (sites units) d).spot.round ≡ ds
  unfolding sites
  guest-nested c le l d ds e =
      let s = placed (in_units 0 units library_sites) c l in
      let there : slice_get added.more (c - length library_sites) ≡ Some s.element =
      sym (later library_sites added.more c le) ∙ ap (λ ss. slice_get ss c) (sym added.is) ∙ s.is in
      by s.element.spot.round (sym (ap (λ (t : Site). t.spot.round) (ap or_nothing s.is)) ∙ e)
      (added.nested s.element (in-got added.more (c - length library_sites) s.element there))
    where
      by : (rs : List ℕ) → rs ≡ d ∷ ds → (rs ≡ []) ⊎ Nested (length library_sites) added.more rs →
          (site_at (in_units 0 units library_sites) d).spot.round ≡ ds
      by rs h (inl none) = absurd (let no : d ∷ ds ≡ [] = sym h ∙ none in cc)
      by rs h (inr n) =
          let same : d ∷ ds ≡ (length library_sites + n.place) ∷ n.outer.spot.round = sym h ∙ n.is in
          ap (λ k. (site_at (in_units 0 units library_sites) k).spot.round) (same_Some d (length library_sites + n.place) (ap (λ ks. slice_get ks 0) same))
          ∙ ap (λ ss. (site_at ss (length library_sites + n.place)).spot.round) added.is
          ∙ ap (λ o. (or_nothing o).spot.round) (behind-others library_sites added.more n.place ∙ n.there)
          ∙ sym (ap (drop 1) same)

  guest-local : (c : ℕ) → length library_sites ≤ c → c < length (sites units) → is_local_sort (site_at (sites units) c).sort ≡ true →
      Inside (site_at (sites units) c).spot.round
  unfolding sites
  guest-local c le l h =
      let s = placed (in_units 0 units library_sites) c l in
      let there : slice_get added.more (c - length library_sites) ≡ Some s.element =
      sym (later library_sites added.more c le) ∙ ap (λ ss. slice_get ss c) (sym added.is) ∙ s.is in
      subst (λ (t : Site). is_local_sort t.sort ≡ true → Inside t.spot.round) (sym (ap or_nothing s.is))
      (added.locals tt s.element (in-got added.more (c - length library_sites) s.element there)) h

  past-site : (c : ℕ) → length (sites units) ≤ c → site_at (sites units) c ≡ unwritten-site
  past-site c le = ap or_nothing (slice_get_past (sites units) c le)

  -- of the library or past the end, or written
  each-site : (c : ℕ) → (site_at (sites units) c ≡ unwritten-site) ⊎ IsWritten (site_at (sites units) c)
  each-site c = by (cases_lt c (length library_sites)) (cases_lt c (length (sites units)))
    where
      by : (c < length library_sites ⊎ length library_sites ≤ c) → (c < length (sites units) ⊎ length (sites units) ≤ c) →
          (site_at (sites units) c ≡ unwritten-site) ⊎ IsWritten (site_at (sites units) c)
      by (inl l) other = inl (library-site c l)
      by (inr le) (inl l) = inr (guest-site c le l)
      by (inr le) (inr past) = inl (past-site c past)

no-constants : (w : Written) → is_enum_written w ≡ false → constants_in w ≡ []
no-constants in_library e = refl
no-constants (behind_new word t ms) e = refl
no-constants (declared (tree.class_declaration ms id ps above interfaces body span)) e = refl
no-constants (declared (tree.interface_declaration ms id ps interfaces body span)) e = refl
no-constants (declared (tree.enum_declaration ms id constants span)) e = absurd cc

an-enum : (w : Written) → is_enum_written w ≡ true → IsEnumDeclaration w
an-enum in_library e = absurd cc
an-enum (behind_new word t ms) e = absurd cc
an-enum (declared (tree.class_declaration ms id ps above interfaces body span)) e = absurd cc
an-enum (declared (tree.interface_declaration ms id ps interfaces body span)) e = absurd cc
an-enum (declared (tree.enum_declaration ms id constants span)) e =
    record { modifiers = ms; name = id; constants = constants; span = span; is = refl }

as-many-rows : (texts : List (List ℕ)) (units : List CompilationUnit) → library_count (source texts units) ≡ length library_sites
as-many-rows texts units =
    library-many (source texts units) ∙ sym (length-map all_classes (λ x. unwritten-site))

units-have-library : (texts : List (List ℕ)) (units : List CompilationUnit) → HasLibrary (source texts units)
unfolding sites
units-have-library texts units =
    let rows : length class_rows ≡ library_count (source texts units) = sym (library-many (source texts units)) in
    let more = (added units).is in
    omega (arith, rows, as-many-rows texts units, ap length more, length-append library_sites (added units).more)

nests : (texts : List (List ℕ)) (units : List CompilationUnit) → RoundsNest (source texts units)
nests texts units c d ds le e = by_either
    (λ l. guest-nested units c (subst (λ n. n ≤ c) (as-many-rows texts units) le) l d ds e)
    (λ past. absurd (let no : [] ≡ d ∷ ds = sym (ap (λ (s : Site). s.spot.round) (past-site units c past)) ∙ e in cc))
    (cases_lt c (length (sites units)))

unwritten-apart : (units : List CompilationUnit) (c : ℕ) → site_at (sites units) c ≡ unwritten-site →
    is_local_sort (site_at (sites units) c).sort ≡ true → Inside (site_at (sites units) c).spot.round
unwritten-apart units c same h = absurd (let no : false ≡ true = sym (ap (λ (s : Site). is_local_sort s.sort) same) ∙ h in cc)

locals-within : (texts : List (List ℕ)) (units : List CompilationUnit) → LocalsStandWithin (source texts units)
locals-within texts units c h = by (cases_lt c (length library_sites)) (cases_lt c (length (sites units)))
  where
    by : (c < length library_sites ⊎ length library_sites ≤ c) → (c < length (sites units) ⊎ length (sites units) ≤ c) →
        Inside (site_at (sites units) c).spot.round
    by (inl l) other = unwritten-apart units c (library-site units c l) h
    by (inr le) (inl l) = guest-local units c le l h
    by (inr le) (inr past) = unwritten-apart units c (past-site units c past) h

rounds-before : (texts : List (List ℕ)) (units : List CompilationUnit) → RoundsComeBefore (source texts units)
rounds-before texts units c d le q = by_either
    (λ l. let k = guest-rounds units c (subst (λ n. n ≤ c) same-count le) l d q in (subst (λ n. n ≤ d) (sym same-count) k.0, k.1))
    (λ past. no-round (subst (λ (s : Site). In s.spot.round d) (past-site units c past) q))
    (cases_lt c (length (sites units)))
  where
    same-count : library_count (source texts units) ≡ length library_sites
    same-count = as-many-rows texts units

    no-round : In {A = ℕ} [] d → (library_count (source texts units) ≤ d) × (d < c)
    no-round i = elim i [ ]

pub sources_stand : SourcesStand
sources_stand texts units = record {
  library = λ c l. ap (λ (s : Site). is_guest s.written)
      (library-site units c (subst (λ n. c < n) (as-many-rows texts units) l));
  guests = λ c le l. (guest-site units c (subst (λ n. n ≤ c) (as-many-rows texts units) le) l).guest;
  constants = λ c no. by_either {Z = constants_in (site_at (sites units) c).written ≡ []}
      (λ same. ap (λ (s : Site). constants_in s.written) same)
      (λ w. no-constants (site_at (sites units) c).written (sym w.enum ∙ no)) (each-site units c);
  enums = λ c yes. by_either {Z = IsEnumDeclaration (site_at (sites units) c).written}
      (λ same. let no : is_enum_sort (site_at (sites units) c).sort ≡ false = ap (λ (s : Site). is_enum_sort s.sort) same in absurd cc)
      (λ w. an-enum (site_at (sites units) c).written (sym w.enum ∙ yes)) (each-site units c);
  interfaces = λ c. by_either
      {Z = is_interface_sort (site_at (sites units) c).sort ≡ is_interface_written (site_at (sites units) c).written}
      (λ same. ap (λ (s : Site). is_interface_sort s.sort) same ∙ sym (ap (λ (s : Site). is_interface_written s.written) same))
      (λ w. w.interface) (each-site units c);
  rounds = rounds-before texts units;
  nested = nests texts units;
  locals = locals-within texts units;
  members = λ x c d h.
      member-below (source texts units) (units-have-library texts units) (settled (source texts units))
      (length (sites units)) x c d h;
}
