-- What is kept of a class shows its site.
use Rattle.std.proofs.Common.{◌≡◌, ℕ, ◌<◌, ◌≤◌, Bool, true, false, List, length, get_or, Some, None, refl, ◌∙◌, sym, ap, arith}
use Rattle.std.specs.Prelude.{slice_get}
use Rattle.std.proofs.lemmas.Option.{slice_get_read, slice_get_past, slice_get_within}
use Rattle.je_scopes.specs.Sites as sites
use Rattle.je_scopes.specs.Sites.{Site, site}
use Rattle.je_scopes.specs.Headers.{or_nothing, site_at}
use Rattle.name_walk.specs.View.{IsAmong, NameEarlier, in_own_scope, sites_of, spot_from, written_view}
use Rattle.name_walk.specs.declared.site.ClassSite.{ClassSite}
use Rattle.name_walk.proofs.Behind.{count_of_sites}
use Rattle.name_walk.proofs.Sites.{site_is}
use Rattle.name_sites.specs.Shown.{Shows, no_class, own_first}

unit_same : (b : Bool) (n : ℕ) (s : sites.Spot) → s.unit ≡ (in_own_scope b n s).unit
unit_same true n s = refl
unit_same false n s = refl

context_same : (b : Bool) (n : ℕ) (s : sites.Spot) → s.context ≡ (in_own_scope b n s).context
context_same true n s = refl
context_same false n s = refl

round_same : (b : Bool) (n : ℕ) (s : sites.Spot) → s.round ≡ (in_own_scope b n s).round
round_same true n s = refl
round_same false n s = refl

locals_same : (b : Bool) (n : ℕ) (s : sites.Spot) → own_first b n s.locals ≡ (in_own_scope b n s).locals
locals_same true n s = refl
locals_same false n s = refl

pub shows : (cs : List ClassSite) (n : ℕ) (c : ClassSite) → NameEarlier cs → slice_get cs n ≡ Some c → Shows (sites_of cs) n c
shows cs n c earlier e =
    let is : site_at (sites_of cs) n ≡ site (written_view c.written) c.sort (in_own_scope c.is_local n (spot_from (sites_of cs) c.spot)) = site_is cs n c earlier e in
    let s : sites.Spot = spot_from (sites_of cs) c.spot in
    let among : IsAmong n c.spot = earlier n c e in
    record {
      written = ap (λ (x : Site). x.written) (sym is);
      sort = ap (λ (x : Site). x.sort) (sym is);
      unit = unit_same c.is_local n s ∙ ap (λ (x : Site). x.spot.unit) (sym is);
      context = context_same c.is_local n s ∙ ap (λ (x : Site). x.spot.context) (sym is);
      round = round_same c.is_local n s ∙ ap (λ (x : Site). x.spot.round) (sym is);
      locals = locals_same c.is_local n s ∙ ap (λ (x : Site). x.spot.locals) (sym is);
      within = λ d h. omega (arith, among.within d h, slice_get_within cs n c e, count_of_sites cs);
      earlier = among.within;
      nearest = among.nearest;
    }

-- by index
pub shows_at : (cs : List ClassSite) (n : ℕ) (c : ClassSite) → NameEarlier cs → n < length cs → c ≡ get_or cs n c → Shows (sites_of cs) n c
shows_at cs n c earlier h e = shows cs n c earlier (slice_get_read cs (length cs) n c refl h e)

pub shows_past : (ss : List Site) (n : ℕ) → length ss ≤ n → Shows ss n no_class
shows_past ss n h =
    let is : site_at ss n ≡ or_nothing None = ap or_nothing (slice_get_past ss n h) in
    record {
      written = ap (λ (x : Site). x.written) (sym is);
      sort = ap (λ (x : Site). x.sort) (sym is);
      unit = ap (λ (x : Site). x.spot.unit) (sym is);
      context = ap (λ (x : Site). x.spot.context) (sym is);
      round = ap (λ (x : Site). x.spot.round) (sym is);
      locals = ap (λ (x : Site). x.spot.locals) (sym is);
      within = λ d e. absurd (cc e);
      earlier = λ d e. absurd (cc e);
      nearest = λ d e. absurd (cc e);
    }
