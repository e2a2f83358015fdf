-- A spot stays what it is while sites are added behind those that it names.
use Rattle.std.proofs.Common.{◌≡◌, ℕ, zero, suc, ◌+◌, ◌≤◌, ◌<◌, Bool, true, false, List, [], ◌∷◌, ◌++◌, length, Option, Some, None, refl, ◌∙◌, sym, ap, subst, arith, length-append}
use Rattle.std.specs.Prelude.{slice_get}
use Rattle.std.specs.Option.{ForSome}
use Rattle.std.proofs.lemmas.Option.{slice_get_within}
use Rattle.je_core.specs.declared.program.Sort.{Sort}
use Rattle.je_core.specs.declared.program.Sort.TheVariants as sort
use Rattle.je_base.specs.declared.span.Span.{Span}
use Rattle.je_ast.specs.declared.name.Identifier.{Identifier}
use Rattle.je_ast.specs.declared.decl.Modifier.{Modifier}
use Rattle.je_ast.specs.Types.{TypeName, TypeNames, TypeParameter}
use Rattle.je_ast.specs.Trees.{Expression, Expressions, Statement, Statements, Members, Declaration}
use Rattle.je_ast.specs.Trees as tree
use Rattle.je_scopes.specs.Sites as sites
use Rattle.je_scopes.specs.Sites.{Site, Written, Context, site, sort_of, inside, behind, behind_local, instance, declared, in_expressions, in_statement, in_block, in_members, in_declaration}
use Rattle.je_scopes.specs.Headers.{site_at, or_nothing}
use Rattle.name_walk.specs.declared.site.Spot.{Spot}
use Rattle.name_walk.specs.declared.site.ClassSite.{ClassSite}
use Rattle.name_walk.specs.View.{IsAmong, is_local_class, in_own_scope, locals_from, round_from, site_from, sites_of, spot_from}
use Rattle.name_walk.proofs.Behind.{count_of_sites, sites_pushed}
use Rattle.name_walk.proofs.Growth.{Grew, in_block_grew, in_expressions_grew, in_members_grew, in_declaration_grew}

pub slice_get-append : {A : Type 0} → (xs : List A) (ys : List A) (n : ℕ) → n < length xs → slice_get (xs ++ ys) n ≡ slice_get xs n
slice_get-append [] ys n h = absurd (omega (arith, h))
slice_get-append (x ∷ xs) ys zero h = refl
slice_get-append (x ∷ xs) ys (suc n) h = slice_get-append xs ys n (omega (arith, h))

pub slice_get-seam : {A : Type 0} → (xs : List A) (y : A) (ys : List A) → slice_get (xs ++ y ∷ ys) (length xs) ≡ Some y
slice_get-seam [] y ys = refl
slice_get-seam (x ∷ xs) y ys = slice_get-seam xs y ys

site_at-append : (before more : List Site) (n : ℕ) → n < length before → site_at (before ++ more) n ≡ site_at before n
site_at-append before more n h = ap or_nothing (slice_get-append before more n h)

round-append : (before more : List Site) (o : Option ℕ) → ForSome o (λ c. c < length before) → round_from (before ++ more) o ≡ round_from before o
round-append before more None h = refl
round-append before more (Some c) h = ap (λ (s : Site). c ∷ s.spot.round) (site_at-append before more c (h c refl))

locals-append : (before more : List Site) (o : Option ℕ) → ForSome o (λ c. c < length before) → locals_from (before ++ more) o ≡ locals_from before o
locals-append before more None h = refl
locals-append before more (Some c) h = ap (λ (s : Site). s.spot.locals) (site_at-append before more c (h c refl))

pub spot-append : (before more : List Site) (s : Spot) → IsAmong (length before) s → spot_from (before ++ more) s ≡ spot_from before s
spot-append before more s h = rw (round-append before more s.within h.within, locals-append before more s.nearest h.nearest) refl

pub among-more : (m n : ℕ) (s : Spot) → m ≤ n → IsAmong m s → IsAmong n s
among-more m n s h among = record {
  within = λ c e. omega (arith, h, among.within c e);
  nearest = λ c e. omega (arith, h, among.nearest c e);
}

-- ---- over what the walk adds

pub spot_stays : (n : ℕ) (before after : List Site) (s : Spot) → Grew n before after → IsAmong (length before) s → spot_from after s ≡ spot_from before s
spot_stays n before after s g among = rw g.is (spot-append before g.more s among)

pub among_stays : (n : ℕ) (before after : List Site) (s : Spot) → Grew n before after → IsAmong (length before) s → IsAmong (length after) s
among_stays n before after s g among = among-more (length before) (length after) s (omega (arith, ap length g.is, length-append before g.more)) among

pub site_stays : (n : ℕ) (before after : List Site) (c : ℕ) → Grew n before after → c < length before → site_at after c ≡ site_at before c
site_stays n before after c g h = rw g.is (site_at-append before g.more c h)

pub still_there : (n : ℕ) (before after : List Site) (c : ℕ) → Grew n before after → c < length before → c < length after
still_there n before after c g h = omega (arith, h, ap length g.is, length-append before g.more)

-- ---- a class that was just added

pub site_last : (before : List Site) (s : Site) → site_at (before ++ s ∷ []) (length before) ≡ s
site_last before s = ap or_nothing (slice_get-seam before s [])

pub last_there : (before : List Site) (s : Site) → length before < length (before ++ s ∷ [])
last_there before s = omega (arith, length-append before (s ∷ []))

pub round_in_own_scope : (is_local : Bool) (number : ℕ) (s : sites.Spot) → (in_own_scope is_local number s).round ≡ s.round
round_in_own_scope true number s = refl
round_in_own_scope false number s = refl

pub inside_in_own_scope : (is_local : Bool) (number other : ℕ) (s : sites.Spot) (context : Context) → inside number (in_own_scope is_local other s) context ≡ inside number s context
inside_in_own_scope true number other s context = refl
inside_in_own_scope false number other s context = refl

pub last_round : (before : List Site) (w : Written) (k : Sort) (is_local : Bool) (number : ℕ) (s : sites.Spot) → (site_at (before ++ site w k (in_own_scope is_local number s) ∷ []) (length before)).spot.round ≡ s.round
last_round before w k is_local number s = rw (site_last before (site w k (in_own_scope is_local number s))) (round_in_own_scope is_local number s)

-- ---- local classes

declared_there : (how : Sort) (s : sites.Spot) (d : Declaration) (before : List Site) → length before < length (in_declaration how s d before)
declared_there how s (tree.class_declaration ms id ps above interfaces body span) before =
    still_there _ _ _ _ (in_members_grew false (inside (length before) s instance) body (before ++ site (declared (tree.class_declaration ms id ps above interfaces body span)) how s ∷ [])) (last_there before (site (declared (tree.class_declaration ms id ps above interfaces body span)) how s))
declared_there how s (tree.interface_declaration ms id ps interfaces body span) before =
    still_there _ _ _ _ (in_members_grew true (inside (length before) s instance) body (before ++ site (declared (tree.interface_declaration ms id ps interfaces body span)) sort.Interface s ∷ [])) (last_there before (site (declared (tree.interface_declaration ms id ps interfaces body span)) sort.Interface s))
declared_there how s (tree.enum_declaration ms id constants span) before = last_there before (site (declared (tree.enum_declaration ms id constants span)) sort.Enum s)

-- a declared class's site is the first that its declaration adds
declared_spot : (how : Sort) (s : sites.Spot) (d : Declaration) (before : List Site) → (site_at (in_declaration how s d before) (length before)).spot ≡ s
declared_spot how s (tree.class_declaration ms id ps above interfaces body span) before =
    let x : Site = site (declared (tree.class_declaration ms id ps above interfaces body span)) how s in
    ap (λ (y : Site). y.spot) (site_stays _ _ _ _ (in_members_grew false (inside (length before) s instance) body (before ++ x ∷ [])) (last_there before x) ∙ site_last before x)
declared_spot how s (tree.interface_declaration ms id ps interfaces body span) before =
    let x : Site = site (declared (tree.interface_declaration ms id ps interfaces body span)) sort.Interface s in
    ap (λ (y : Site). y.spot) (site_stays _ _ _ _ (in_members_grew true (inside (length before) s instance) body (before ++ x ∷ [])) (last_there before x) ∙ site_last before x)
declared_spot how s (tree.enum_declaration ms id constants span) before =
    let x : Site = site (declared (tree.enum_declaration ms id constants span)) sort.Enum s in ap (λ (y : Site). y.spot) (site_last before x)

pub behind_there : (s : sites.Spot) (x : Statement) (before : List Site) → is_local_class x ≡ true → length before < length (in_statement s x before)
behind_there s (tree.block opening body closing) before h = absurd (cc h)
behind_there s (tree.local start is_final t vs span) before h = absurd (cc h)
behind_there s (tree.local_class d) before h = declared_there sort.Local (behind_local (length before) s) d before
behind_there s (tree.empty span) before h = absurd (cc h)
behind_there s (tree.labelled id b span) before h = absurd (cc h)
behind_there s (tree.if_only word e b span) before h = absurd (cc h)
behind_there s (tree.if_else word e b c span) before h = absurd (cc h)
behind_there s (tree.while word e b span) before h = absurd (cc h)
behind_there s (tree.do_while word b e span) before h = absurd (cc h)
behind_there s (tree.for word start condition steps b span) before h = absurd (cc h)
behind_there s (tree.for_each word is_final t id e b span) before h = absurd (cc h)
behind_there s (tree.switch word e gs span) before h = absurd (cc h)
behind_there s (tree.break word label span) before h = absurd (cc h)
behind_there s (tree.continue word label span) before h = absurd (cc h)
behind_there s (tree.return word e span) before h = absurd (cc h)
behind_there s (tree.throw word e span) before h = absurd (cc h)
behind_there s (tree.try word opening b closing cs span) before h = absurd (cc h)
behind_there s (tree.try_finally word opening b closing cs at opening' c closing' span) before h = absurd (cc h)
behind_there s (tree.expression_statement start e span) before h = absurd (cc h)

pub behind_is : (s : sites.Spot) (x : Statement) (before : List Site) → is_local_class x ≡ true → record s { locals = (site_at (in_statement s x before) (length before)).spot.locals } ≡ behind s x (length before)
behind_is s (tree.block opening body closing) before h = absurd (cc h)
behind_is s (tree.local start is_final t vs span) before h = absurd (cc h)
behind_is s (tree.local_class d) before h = ap (λ (y : sites.Spot). record s { locals = y.locals }) (declared_spot sort.Local (behind_local (length before) s) d before)
behind_is s (tree.empty span) before h = absurd (cc h)
behind_is s (tree.labelled id b span) before h = absurd (cc h)
behind_is s (tree.if_only word e b span) before h = absurd (cc h)
behind_is s (tree.if_else word e b c span) before h = absurd (cc h)
behind_is s (tree.while word e b span) before h = absurd (cc h)
behind_is s (tree.do_while word b e span) before h = absurd (cc h)
behind_is s (tree.for word start condition steps b span) before h = absurd (cc h)
behind_is s (tree.for_each word is_final t id e b span) before h = absurd (cc h)
behind_is s (tree.switch word e gs span) before h = absurd (cc h)
behind_is s (tree.break word label span) before h = absurd (cc h)
behind_is s (tree.continue word label span) before h = absurd (cc h)
behind_is s (tree.return word e span) before h = absurd (cc h)
behind_is s (tree.throw word e span) before h = absurd (cc h)
behind_is s (tree.try word opening b closing cs span) before h = absurd (cc h)
behind_is s (tree.try_finally word opening b closing cs at opening' c closing' span) before h = absurd (cc h)
behind_is s (tree.expression_statement start e span) before h = absurd (cc h)

pub behind_not : (s : sites.Spot) (x : Statement) (n : ℕ) → is_local_class x ≡ false → behind s x n ≡ s
behind_not s (tree.block opening body closing) n h = refl
behind_not s (tree.local start is_final t vs span) n h = refl
behind_not s (tree.local_class d) n h = absurd (cc h)
behind_not s (tree.empty span) n h = refl
behind_not s (tree.labelled id b span) n h = refl
behind_not s (tree.if_only word e b span) n h = refl
behind_not s (tree.if_else word e b c span) n h = refl
behind_not s (tree.while word e b span) n h = refl
behind_not s (tree.do_while word b e span) n h = refl
behind_not s (tree.for word start condition steps b span) n h = refl
behind_not s (tree.for_each word is_final t id e b span) n h = refl
behind_not s (tree.switch word e gs span) n h = refl
behind_not s (tree.break word label span) n h = refl
behind_not s (tree.continue word label span) n h = refl
behind_not s (tree.return word e span) n h = refl
behind_not s (tree.throw word e span) n h = refl
behind_not s (tree.try word opening b closing cs span) n h = refl
behind_not s (tree.try_finally word opening b closing cs at opening' c closing' span) n h = refl
behind_not s (tree.expression_statement start e span) n h = refl

-- ---- one more class

pub spot_pushed : (cs : List ClassSite) (c : ClassSite) (s : Spot) → IsAmong (length cs) s → spot_from (sites_of (cs ++ c ∷ [])) s ≡ spot_from (sites_of cs) s
spot_pushed cs c s among =
    ap (λ (x : List Site). spot_from x s) (sites_pushed cs c)
    ∙ spot-append (sites_of cs) (site_from (sites_of cs) c ∷ []) s (among-more (length cs) (length (sites_of cs)) s (omega (arith, count_of_sites cs)) among)

-- ---- declarations

pub declared_class : (how : Sort) (s : sites.Spot) (is_local : Bool) (before : List Site) (d : Declaration) (ms : List Modifier) (id : Identifier) (ps : List TypeParameter) (above : Option TypeName) (interfaces : TypeNames) (body : Members) (span : Span)
    → d ≡ tree.class_declaration ms id ps above interfaces body span
    → in_members false (inside (length before) s instance) body (before ++ site (declared d) how (in_own_scope is_local (length before) s) ∷ []) ≡ in_declaration how (in_own_scope is_local (length before) s) d before
declared_class how s is_local before d ms id ps above interfaces body span e =
    let own : sites.Spot = in_own_scope is_local (length before) s in
    subst (λ (x : Declaration). in_members false (inside (length before) s instance) body (before ++ site (declared x) how own ∷ []) ≡ in_declaration how own x before) (sym e)
    (ap (λ (i : sites.Spot). in_members false i body (before ++ site (declared (tree.class_declaration ms id ps above interfaces body span)) how own ∷ [])) (sym (inside_in_own_scope is_local (length before) (length before) s instance)))

pub declared_interface : (how : Sort) (s : sites.Spot) (is_local : Bool) (before : List Site) (d : Declaration) (ms : List Modifier) (id : Identifier) (ps : List TypeParameter) (interfaces : TypeNames) (body : Members) (span : Span)
    → d ≡ tree.interface_declaration ms id ps interfaces body span
    → in_members true (inside (length before) s instance) body (before ++ site (declared d) sort.Interface (in_own_scope is_local (length before) s) ∷ []) ≡ in_declaration how (in_own_scope is_local (length before) s) d before
declared_interface how s is_local before d ms id ps interfaces body span e =
    let own : sites.Spot = in_own_scope is_local (length before) s in
    subst (λ (x : Declaration). in_members true (inside (length before) s instance) body (before ++ site (declared x) sort.Interface own ∷ []) ≡ in_declaration how own x before) (sym e)
    (ap (λ (i : sites.Spot). in_members true i body (before ++ site (declared (tree.interface_declaration ms id ps interfaces body span)) sort.Interface own ∷ [])) (sym (inside_in_own_scope is_local (length before) (length before) s instance)))

-- ---- an anonymous class, behind the arguments of its `new`

pub there_behind : (s : sites.Spot) (es : Expressions) (before : List Site) (x : Site) → length before < length (in_expressions s es (before ++ x ∷ []))
there_behind s es before x = still_there _ (before ++ x ∷ []) (in_expressions s es (before ++ x ∷ [])) (length before) (in_expressions_grew s es (before ++ x ∷ [])) (last_there before x)

pub round_behind : (s : sites.Spot) (es : Expressions) (before : List Site) (w : Written) (k : Sort) (spot : sites.Spot) → (site_at (in_expressions s es (before ++ site w k spot ∷ [])) (length before)).spot.round ≡ spot.round
round_behind s es before w k spot =
    let x : Site = site w k spot in
    ap (λ (y : Site). y.spot.round) (site_stays _ (before ++ x ∷ []) (in_expressions s es (before ++ x ∷ [])) (length before) (in_expressions_grew s es (before ++ x ∷ [])) (last_there before x) ∙ site_last before x)
