-- What the library's lists in memory have at a place and under a name, beside the definitions of these lists.
use Rattle.std.proofs.Common.{◌≡◌, ℕ, List, map, Bool, false, ◌&&◌, Option, Some, None, option_map, unwrap_or, slice_get, sym, ap, ◌∙◌}
use Rattle.std.specs.List.{position}
use Rattle.std.specs.Str.{bytes_eq}
use Rattle.je_table.specs.declared.classes.ClassRow.{ClassRow}
use Rattle.je_table.specs.declared.members.MemberRow.{MemberRow}
use Rattle.je_table.specs.Library.{Class, classes, class_number, library}
use Rattle.je_table.specs.Members.{keys, key_of, place_of_key}
use Rattle.je_table.specs.Rows.{Row, row_of, row_said, class_said}
use Rattle.taming_db.specs.declared.marker.Marker.{Marker}
use Rattle.taming_db.specs.Markers.{is_in}
use Rattle.taming_db.specs.Rows.{is_tame, is_true_marker, member_place}
use Rattle.taming_db.proofs.Mapped.{seen_at, position_seen, same_map}

abbrev tame_of : Option MemberRow → Bool
tame_of o = unwrap_or (option_map (λ (r : MemberRow). r.tame) o) false

tame_there : (rows : List MemberRow) (at : ℕ) → map row_said rows ≡ map row_of library → tame_of (slice_get rows at) ≡ is_tame at
tame_there rows at e = ap (λ (o : Option Bool). unwrap_or o false) (seen_at row_said row_of (λ (w : Row). w.tame) rows library at e)

pub tame_none : (rows : List MemberRow) (at : ℕ) → map row_said rows ≡ map row_of library → slice_get rows at ≡ None → false ≡ is_tame at
tame_none rows at e got = sym (ap tame_of got) ∙ tame_there rows at e

pub tame_some : (rows : List MemberRow) (at : ℕ) (row : MemberRow) → map row_said rows ≡ map row_of library → slice_get rows at ≡ Some row → row.tame ≡ is_tame at
tame_some rows at row e got = sym (ap tame_of got) ∙ tame_there rows at e

module _ (m : Marker) where
  abbrev true_of : Option ClassRow → Bool
  true_of o = unwrap_or (option_map (λ (r : ClassRow). is_in r.markers m) o) false

  true_there : (rows : List ClassRow) (at : ℕ) → map class_said rows ≡ classes → true_of (slice_get rows at) ≡ is_true_marker at m
  true_there rows at e =
      ap (λ (o : Option Bool). unwrap_or o false) (seen_at class_said (λ (c : Class). c) (λ (c : Class). is_in c.markers m) rows classes at (e ∙ sym (same_map classes)))

  pub true_none : (rows : List ClassRow) (at : ℕ) → map class_said rows ≡ classes → slice_get rows at ≡ None → false ≡ is_true_marker at m
  true_none rows at e got = sym (ap true_of got) ∙ true_there rows at e

  pub true_some : (rows : List ClassRow) (at : ℕ) (row : ClassRow) → map class_said rows ≡ classes → slice_get rows at ≡ Some row → is_in row.markers m ≡ is_true_marker at m
  true_some rows at row e got = sym (ap true_of got) ∙ true_there rows at e

pub class_place : (rows : List ClassRow) (name : List ℕ) → map class_said rows ≡ classes → position (λ (r : ClassRow). bytes_eq r.name.now name) rows ≡ class_number name
class_place rows name e =
    sym (position_seen (λ (c : Class). bytes_eq c.name name) class_said rows) ∙ ap (λ (cs : List Class). position (λ (c : Class). bytes_eq c.name name) cs) e

pub member_is : (rows : List MemberRow) (class signature : List ℕ) → map row_said rows ≡ map row_of library → place_of_key class signature (keys rows) ≡ member_place class signature
unfolding member_place
member_is rows class signature e =
    position_seen (λ (key : List ℕ × List ℕ). bytes_eq key.0 class && bytes_eq key.1 signature) key_of rows
    ∙ sym (position_seen (λ (row : Row). bytes_eq row.class class && bytes_eq row.signature signature) row_said rows)
    ∙ ap (λ (ws : List Row). position (λ (row : Row). bytes_eq row.class class && bytes_eq row.signature signature) ws) e
