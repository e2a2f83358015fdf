-- The units of the files one after another, or the first fault.
use Rattle.std.proofs.Common.{◌≡◌, ℕ, suc, ◌+◌, ◌<◌, ◌≤◌, List, [], ◌∷◌, ◌++◌, length, take, drop, get_or, map, All, refl, sym, ap, ◌∙◌, subst, arith, take_all}
use Rattle.std.specs.List.{AllZip}
use Rattle.std.proofs.lemmas.List.{map_more, map-append}
use Rattle.std.proofs.lemmas.List.Elements.{All-nil, All-cons}
use Rattle.je_base.specs.declared.span.NameId.{NameId}
use Rattle.je_base.specs.declared.span.Span.{Span}
use Rattle.je_ast.specs.declared.decl.Unit as node
use Rattle.je_ast.specs.Trees.{CompilationUnit}
use Rattle.je_ast.specs.View.{unit_view}
use Rattle.je_ast.specs.Size.{unit_size}
use Rattle.je_ast.specs.Renumbering.{renumbered}
use Rattle.je_lexer.specs.declared.file_tokens.Tokens.{Tokens}
use Rattle.name_walk.specs.Sizes.{units_size}
use Rattle.parse_decl.specs.Answers.{IsUnitOf, FailsAtPlace}
use Rattle.host_text.specs.declared.rules.Rule.TheVariants as rule
use Rattle.source_units.specs.Files.{FileTokens, IsUnit, file_tokens}
use Rattle.source_units.specs.Names.{all_interned, names_with, HasNumber, AreNumbers}
use Rattle.source_units.specs.Units.{IsUnitAmong, AreRead}
use Rattle.source_units.specs.Faults.{HasUnit, IsSyntaxFault, IsFirstSyntaxFault, IsRefusal}
use Rattle.source_units.specs.declared.refusal.Refusal.{Refusal}
use Rattle.source_units.specs.declared.refusal.Refusal.TheVariants as refusal
use Rattle.source_units.proofs.Interning.{number_kept_by_all, names_with_push}
use Rattle.source_units.proofs.Lexed.{map_split}
use Rattle.source_units.proofs.Zips.{zip_push, zip_weaker}

-- ---- one file

pub is_unit : (t : Tokens) (u : node.Unit) → IsUnitOf t u → IsUnit (file_tokens t) (unit_view u)
is_unit t u h = record { spelled = h.spelled; within = h.within }

pub refused : (t : Tokens) (span : Span) → FailsAtPlace t span → IsSyntaxFault (file_tokens t) (record { rule = rule.Syntax; span = span })
refused t span h =
    record { is_rule = refl; none = λ u k. h.none u k.spelled k.within; place = h.place; is_place = h.is_place.is_place; inside = h.is_place.inside; there = h.there }

pub among : (names : List (List ℕ)) (f : FileTokens) (own u : CompilationUnit) (numbers : List NameId) → IsUnit f own → AreNumbers names f.names numbers →
    u ≡ renumbered numbers own → IsUnitAmong names f u
among names f own u numbers is numbered e = record { own = own; is_unit = is; numbers = numbers; numbered = numbered; renumbered = e }

-- ---- all files

unit_kept : (names more : List (List ℕ)) (f : FileTokens) (u : CompilationUnit) → IsUnitAmong names f u → IsUnitAmong (all_interned names more) f u
unit_kept names more f u h =
    let kept = zip_weaker (HasNumber names) (HasNumber (all_interned names more)) (number_kept_by_all more names) f.names h.numbers h.numbered in
    record { own = h.own; is_unit = h.is_unit; numbers = h.numbers; numbered = kept; renumbered = h.renumbered }

all_units : (names : List (List ℕ)) (fs : List FileTokens) (us : List CompilationUnit) → AllZip (IsUnitAmong names) fs us → All HasUnit fs
all_units names [] [] h = All-nil HasUnit
all_units names [] (u ∷ us) h = absurd h
all_units names (f ∷ fs) [] h = absurd h
all_units names (f ∷ fs) (u ∷ us) h = All-cons HasUnit f fs (h.0.own, h.0.is_unit) (all_units names fs us h.1)

pub units_size_push : (us : List CompilationUnit) (u : CompilationUnit) → units_size (us ++ u ∷ []) ≡ units_size us + unit_size u.declarations
units_size_push [] u = omega arith
units_size_push (v ∷ us) u = let more = units_size_push us u in omega arith

pub record AreParsed (all : List Tokens) (old names : List (List ℕ)) (at : ℕ) (units : List CompilationUnit) : Type 0 where
  pub names_are : names ≡ names_with old (map file_tokens (take at all))
  pub units_are : AllZip (IsUnitAmong names) (map file_tokens (take at all)) units

pub begins : (all : List Tokens) (old : List (List ℕ)) → AreParsed all old old 0 []
begins all old = record { names_are = refl; units_are = tt }

pub goes_on : (all : List Tokens) (old names names1 : List (List ℕ)) (at : ℕ) (t : Tokens) (units : List node.Unit) (u : node.Unit) → at < length all → t ≡ get_or all at t →
    names1 ≡ all_interned names t.names → IsUnitAmong names1 (file_tokens t) (unit_view u) → AreParsed all old names at (map unit_view units) →
    AreParsed all old names1 (at + 1) (map unit_view (units ++ u ∷ []))
goes_on all old names names1 at t units u less is names_are is_unit h =
    let before = map file_tokens (take at all) in
    let next : map file_tokens (take (at + 1) all) ≡ before ++ file_tokens t ∷ [] =
    map_more file_tokens all at t less ∙ ap (λ (x : Tokens). before ++ file_tokens x ∷ []) (sym is) in
    let whole : map unit_view (units ++ u ∷ []) ≡ map unit_view units ++ unit_view u ∷ [] = map-append unit_view units (u ∷ []) in
    let kept : AllZip (IsUnitAmong names1) before (map unit_view units) =
    rw names_are (zip_weaker (IsUnitAmong names) (IsUnitAmong (all_interned names t.names)) (unit_kept names t.names) before (map unit_view units) h.units_are) in
    record {
      names_are = names_are ∙ ap (λ ns. all_interned ns t.names) h.names_are ∙ sym (ap (names_with old) next ∙ names_with_push before old (file_tokens t));
      units_are = rw (next, whole) (zip_push (IsUnitAmong names1) before (map unit_view units) (file_tokens t) (unit_view u) kept is_unit);
    }

pub ends : (all : List Tokens) (old names : List (List ℕ)) (at : ℕ) (units : List CompilationUnit) → length all ≤ at → AreParsed all old names at units →
    AreRead (map file_tokens all) old units names
ends all old names at units over h =
    let whole = take_all at all over in
    record {
      names_are = subst (λ ts. names ≡ names_with old (map file_tokens ts)) whole h.names_are;
      units_are = subst (λ ts. AllZip (IsUnitAmong names) (map file_tokens ts) units) whole h.units_are;
    }

pub fails : (all : List Tokens) (old names : List (List ℕ)) (at : ℕ) (t : Tokens) (units : List CompilationUnit) (r : Refusal) → at < length all → t ≡ get_or all at t →
    IsRefusal (IsSyntaxFault (file_tokens t)) r → AreParsed all old names at units → IsRefusal (IsFirstSyntaxFault (map file_tokens all)) r
fails all old names at t units refusal.Memory less is fault h = tt
fails all old names at t units (refusal.Fault x) less is fault h = record {
  earlier = map file_tokens (take at all);
  file = file_tokens t;
  later = map file_tokens (drop (suc at) all);
  parts = map_split file_tokens all at t less is;
  read = all_units names (map file_tokens (take at all)) units h.units_are;
  fault = fault;
}
