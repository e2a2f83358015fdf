-- Objects whose units stand in a list of texts: what is read of them, and what new units and an object more change.
use Rattle.std.proofs.Common.{◌≡◌, ◌≢◌, ◌<◌, ◌≤◌, ◌+◌, ℕ, zero, suc, true, false, List, [], ◌∷◌, ◌++◌, length, map, take, drop, Some, None, refl, sym, ◌∙◌, ap, subst, true≢false, arith}
use Rattle.std.specs.Prelude.{slice_get, slice_set, slice_index_or, option_map, IsTrue, if◌then◌else◌}
use Rattle.std.proofs.Math.ListN.{get_or-append}
use Rattle.std.proofs.Math.Seq.{get_or-append_seam}
use Rattle.std.proofs.lemmas.List.{take_all, take-append-drop, take-map, length-append, length-set, length-take-le, map-append, get_or-take, get_or_default, get_or-set_same, get_or-set_other}
use Rattle.std.proofs.lemmas.Option.{slice_get-map, none-some, same_Some, slice_get_past}
use Rattle.je_core.specs.declared.value.Value.{Value}
use Rattle.je_java.specs.World.{units_in, units_of, with_units, with_units_in, with_units_at}
use Rattle.je_heap.specs.declared.entry.Entry.{Entry}
use Rattle.je_heap.specs.declared.entry.Kind.{Kind}
use Rattle.je_heap.specs.declared.entry.Kind.TheVariants.{Instance, Array, Text, Builder, Row, Cap}
use Rattle.je_heap.specs.Shape.{shape_of, shape_at, is_builder, IsBuilder}
use Rattle.je_heap.specs.way.Laid.{has_units, is_of_builders, text_count, MayHave, object_of, shape_by, object_in, AreLaid, AreNumbered}
use Rattle.je_heap.proofs.Laying.{entry-read, object-read, laid-on, laid-front, laid-within, take-whole, old-same}

-- ---- kinds

-- Units that an object doesn't have make no difference.
same-units : (k : Kind) (vs : List Value) (us ws : List ℕ) → (0 < text_count k → us ≡ ws) → object_of k vs us ≡ object_of k vs ws
same-units (Instance class) vs us ws same = refl
same-units (Array element) vs us ws same = refl
same-units Text vs us ws same = ap (object_of Text vs) (same (omega arith))
same-units Builder vs us ws same = ap (object_of Builder vs) (same (omega arith))
same-units (Row class) vs us ws same = refl
same-units (Cap device class) vs us ws same = refl

counted : (k : Kind) → has_units k ≡ true → text_count k ≡ 1
counted k is = rw is refl

-- ---- entries

-- the texts of an entry
numbered-within : (from end id : ℕ) (es : List Entry) (e : Entry) → AreNumbered from es end → slice_get es id ≡ Some e → (from ≤ e.text) × (e.text + text_count e.kind ≤ end)
numbered-within from end id [] e l is = absurd (none-some e is)
numbered-within from end zero (f ∷ es) e l is =
    let first = l.0 in
    let rest = numbered-from (from + text_count f.kind) end es l.1 in
    rw (sym (same_Some f e is)) (omega arith, omega arith) where
      numbered-from : (from end : ℕ) (es : List Entry) → AreNumbered from es end → from ≤ end
      numbered-from from end [] l = omega arith
      numbered-from from end (f ∷ es) l = let h = numbered-from (from + text_count f.kind) end es l.1 in omega arith
numbered-within from end (suc id) (f ∷ es) e l is =
    let h = numbered-within (from + text_count f.kind) end id es e l.1 is in
    let a = h.0 in (omega arith, h.1)

-- the place of an entry's units
text-there : (es : List Entry) (id count : ℕ) (e : Entry) → AreNumbered 0 es count → slice_get es id ≡ Some e → has_units e.kind ≡ true → e.text < count
text-there es id count e l is has =
    let end = (numbered-within 0 count id es e l is).1 in
    let one = counted e.kind has in omega arith

pub text_there : (es : List Entry) (id count : ℕ) {e : Entry} → AreNumbered 0 es count → id < length es → e ≡ slice_index_or es id e → has_units e.kind ≡ true → e.text < count
text_there es id count {e} l lt is has = text-there es id count e l (entry-read es id e lt is) has

-- ---- the shape

shape-is : (k : Kind) (n : ℕ) (vs : List Value) (us : List ℕ) → length vs ≡ n → MayHave k n →
    shape_of (object_of k vs us) ≡ shape_by k (if has_units k then length us else n)
shape-is (Instance class) n vs us len may = rw len refl
shape-is (Array element) n vs us len may = rw len refl
shape-is Text n vs us len may = refl
shape-is Builder n vs us len may = refl
shape-is (Row class) n vs us len may = rw len refl
shape-is (Cap device class) n vs us len may = rw may refl

shape-read : (row : List Value) (texts : List (List ℕ)) (es : List Entry) (id : ℕ) (e : Entry) → AreLaid 0 es (length row) → slice_get es id ≡ Some e →
    shape_at (map (object_in row texts) es) id ≡ Some (shape_by e.kind (if has_units e.kind then length (slice_index_or texts e.text []) else e.len))
shape-read row texts es id e l is =
    let laid = laid-within 0 (length row) id es e l is in
    ap (option_map shape_of) (object-read row texts es id e is) ∙
    ap Some (shape-is e.kind e.len (take e.len (drop e.first row)) (slice_index_or texts e.text []) (take-whole row e.first e.len laid.1) laid.2)

pub no_shape : (row : List Value) (texts : List (List ℕ)) (es : List Entry) (id : ℕ) → length es ≤ id → None ≡ shape_at (map (object_in row texts) es) id
no_shape row texts es id past = sym (ap (option_map shape_of) (slice_get-map (object_in row texts) es id ∙ ap (option_map (object_in row texts)) (slice_get_past es id past)))

pub shape_by_units : (row : List Value) (texts : List (List ℕ)) (es : List Entry) (id : ℕ) {e : Entry} → AreLaid 0 es (length row) → id < length es →
    e ≡ slice_index_or es id e → has_units e.kind ≡ true → shape_at (map (object_in row texts) es) id ≡ Some (shape_by e.kind (length (slice_index_or texts e.text [])))
shape_by_units row texts es id {e} l lt is has =
    shape-read row texts es id e l (entry-read es id e lt is) ∙
    ap (λ b. Some (shape_by e.kind (if b then length (slice_index_or texts e.text []) else e.len))) has

pub shape_by_slots : (row : List Value) (texts : List (List ℕ)) (es : List Entry) (id : ℕ) {e : Entry} → AreLaid 0 es (length row) → id < length es →
    e ≡ slice_index_or es id e → has_units e.kind ≡ false → shape_at (map (object_in row texts) es) id ≡ Some (shape_by e.kind e.len)
shape_by_slots row texts es id {e} l lt is has =
    shape-read row texts es id e l (entry-read es id e lt is) ∙
    ap (λ b. Some (shape_by e.kind (if b then length (slice_index_or texts e.text []) else e.len))) has

-- ---- reading

units-by : (k : Kind) (vs : List Value) (us : List ℕ) → units_in (Some (object_of k vs us)) ≡ (if has_units k then Some us else None)
units-by (Instance class) vs us = refl
units-by (Array element) vs us = refl
units-by Text vs us = refl
units-by Builder vs us = refl
units-by (Row class) vs us = refl
units-by (Cap device class) vs us = refl

units-read : (row : List Value) (texts : List (List ℕ)) (es : List Entry) (id : ℕ) (e : Entry) → slice_get es id ≡ Some e →
    units_of (map (object_in row texts) es) id ≡ (if has_units e.kind then Some (slice_index_or texts e.text []) else None)
units-read row texts es id e is =
    ap units_in (object-read row texts es id e is) ∙ units-by e.kind (take e.len (drop e.first row)) (slice_index_or texts e.text [])

pub no_units : (row : List Value) (texts : List (List ℕ)) (es : List Entry) (id : ℕ) → length es ≤ id → None ≡ units_of (map (object_in row texts) es) id
no_units row texts es id past = sym (ap units_in (slice_get-map (object_in row texts) es id ∙ ap (option_map (object_in row texts)) (slice_get_past es id past)))

pub units_of_entry : (row : List Value) (texts : List (List ℕ)) (es : List Entry) (id : ℕ) {e : Entry} {us : List ℕ} → AreNumbered 0 es (length texts) →
    id < length es → e ≡ slice_index_or es id e → has_units e.kind ≡ true → us ≡ slice_index_or texts e.text us →
    Some us ≡ units_of (map (object_in row texts) es) id
units_of_entry row texts es id {e} {us} l lt is has own =
    let there = entry-read es id e lt is in
    let read : us ≡ slice_index_or texts e.text [] = own ∙ get_or_default texts e.text us [] (text-there es id (length texts) e l there has) in
    ap Some read ∙ sym (units-read row texts es id e there ∙ ap (λ b. if b then Some (slice_index_or texts e.text []) else None) has)

pub unit_free : (row : List Value) (texts : List (List ℕ)) (es : List Entry) (id : ℕ) {e : Entry} → id < length es → e ≡ slice_index_or es id e →
    has_units e.kind ≡ false → None ≡ units_of (map (object_in row texts) es) id
unit_free row texts es id {e} lt is has =
    sym (units-read row texts es id e (entry-read es id e lt is) ∙ ap (λ b. if b then Some (slice_index_or texts e.text []) else None) has)

-- ---- builders

builder-by : (k : Kind) (vs : List Value) (us : List ℕ) → is_builder (Some (object_of k vs us)) ≡ is_of_builders k
builder-by (Instance class) vs us = refl
builder-by (Array element) vs us = refl
builder-by Text vs us = refl
builder-by Builder vs us = refl
builder-by (Row class) vs us = refl
builder-by (Cap device class) vs us = refl

pub no_builder : (row : List Value) (texts : List (List ℕ)) (es : List Entry) (id : ℕ) → length es ≤ id → false ≡ is_builder (slice_get (map (object_in row texts) es) id)
no_builder row texts es id past = sym (ap is_builder (slice_get-map (object_in row texts) es id ∙ ap (option_map (object_in row texts)) (slice_get_past es id past)))

pub builder_of_entry : (row : List Value) (texts : List (List ℕ)) (es : List Entry) (id : ℕ) {e : Entry} → id < length es → e ≡ slice_index_or es id e →
    is_of_builders e.kind ≡ is_builder (slice_get (map (object_in row texts) es) id)
builder_of_entry row texts es id {e} lt is =
    sym (ap is_builder (object-read row texts es id e (entry-read es id e lt is)) ∙ builder-by e.kind (take e.len (drop e.first row)) (slice_index_or texts e.text []))

builder-kind : (k : Kind) → IsTrue (is_of_builders k) → k ≡ Builder
builder-kind (Instance class) is = absurd (true≢false (sym is))
builder-kind (Array element) is = absurd (true≢false (sym is))
builder-kind Text is = absurd (true≢false (sym is))
builder-kind Builder is = refl
builder-kind (Row class) is = absurd (true≢false (sym is))
builder-kind (Cap device class) is = absurd (true≢false (sym is))

pub builder_there : (row : List Value) (texts : List (List ℕ)) (es : List Entry) (id : ℕ) → IsBuilder (map (object_in row texts) es) id → id < length es
builder_there row texts [] id is = absurd (true≢false (sym is))
builder_there row texts (e ∷ es) zero is = omega arith
builder_there row texts (e ∷ es) (suc id) is = let h = builder_there row texts es id is in omega arith

-- the entry of a builder
pub builder_entry : (row : List Value) (texts : List (List ℕ)) (es : List Entry) (id : ℕ) {e : Entry} → IsBuilder (map (object_in row texts) es) id →
    e ≡ slice_index_or es id e → (id < length es) × (e.kind ≡ Builder)
builder_entry row texts es id {e} builder is =
    let lt = builder_there row texts es id builder in
    (lt, builder-kind e.kind (subst IsTrue (sym (builder_of_entry row texts es id lt is)) builder))

pub text_of_builder : (row : List Value) (texts : List (List ℕ)) (es : List Entry) (id : ℕ) {e : Entry} → AreNumbered 0 es (length texts) →
    IsBuilder (map (object_in row texts) es) id → e ≡ slice_index_or es id e → e.text < length texts
text_of_builder row texts es id l builder is =
    let found = builder_entry row texts es id builder is in
    text_there es id (length texts) l found.0 is (ap has_units found.1)

pub units_of_builder : (row : List Value) (texts : List (List ℕ)) (es : List Entry) (id : ℕ) {e : Entry} {us : List ℕ} → AreNumbered 0 es (length texts) →
    IsBuilder (map (object_in row texts) es) id → e ≡ slice_index_or es id e → us ≡ slice_index_or texts e.text us → Some us ≡ units_of (map (object_in row texts) es) id
units_of_builder row texts es id l builder is own =
    let found = builder_entry row texts es id builder is in
    units_of_entry row texts es id l found.0 is (ap has_units found.1) own

-- ---- other texts

-- Texts that are the same where entries have theirs give the same objects.
texts-same : (row : List Value) (texts others : List (List ℕ)) (from end : ℕ) (es : List Entry) → AreNumbered from es end →
    ((n : ℕ) → from ≤ n → n < end → slice_index_or others n [] ≡ slice_index_or texts n []) → map (object_in row others) es ≡ map (object_in row texts) es
texts-same row texts others from end [] l same = refl
texts-same row texts others from end (e ∷ es) l same =
    let first = l.0 in
    let end-here = (numbered-within from end 0 (e ∷ es) e l refl).1 in
    let here : object_in row others e ≡ object_in row texts e =
    same-units e.kind (take e.len (drop e.first row)) (slice_index_or others e.text []) (slice_index_or texts e.text [])
    (λ has. same e.text (omega arith) (omega arith)) in
    let behind = texts-same row texts others (from + text_count e.kind) end es l.1 (λ n ge lt. same n (omega arith) lt) in
    rw here (rw behind refl)

-- ---- new units

write : (row : List Value) (texts : List (List ℕ)) (from end id : ℕ) (us : List ℕ) (es : List Entry) (e : Entry) → AreNumbered from es end → end ≤ length texts →
    slice_get es id ≡ Some e → text_count e.kind ≡ 1 →
    map (object_in row (slice_set texts e.text us)) es ≡ slice_set (map (object_in row texts) es) id (object_of e.kind (take e.len (drop e.first row)) us)
write row texts from end id us [] e l le is one = absurd (none-some e is)
write row texts from end zero us (f ∷ es) e l le is one =
    let within = (numbered-within from end 0 (f ∷ es) e l is).1 in
    let lt : e.text < length texts = omega arith in
    let same = same_Some f e is in
    let first : e.text ≡ from = subst (λ (x : Entry). x.text ≡ from) same l.0 in
    let counts : text_count f.kind ≡ 1 = subst (λ (x : Entry). text_count x.kind ≡ 1) (sym same) one in
    let behind = texts-same row texts (slice_set texts e.text us) (from + text_count f.kind) end es l.1
    (λ n ge lt'. get_or-set_other texts e.text n us [] (let ne : n ≢ e.text = omega arith in ne)) in
    rw behind (rw same (ap (λ u. object_of e.kind (take e.len (drop e.first row)) u ∷ map (object_in row texts) es) (get_or-set_same texts e.text us [] lt)))
write row texts from end (suc id) us (f ∷ es) e l le is one =
    let first = l.0 in
    let behind = (numbered-within (from + text_count f.kind) end id es e l.1 is).0 in
    let here : object_in row (slice_set texts e.text us) f ≡ object_in row texts f =
    same-units f.kind (take f.len (drop f.first row)) (slice_index_or (slice_set texts e.text us) f.text []) (slice_index_or texts f.text [])
    (λ has. get_or-set_other texts e.text f.text us [] (let ne : f.text ≢ e.text = omega arith in ne)) in
    rw here (ap (λ t. object_in row texts f ∷ t) (write row texts (from + text_count f.kind) end id us es e l.1 le is one))

pub with_units_of_entry : (row : List Value) (texts : List (List ℕ)) (es : List Entry) (id : ℕ) (us : List ℕ) {e : Entry} → AreNumbered 0 es (length texts) →
    IsBuilder (map (object_in row texts) es) id → e ≡ slice_index_or es id e →
    map (object_in row (slice_set texts e.text us)) es ≡ with_units_at (map (object_in row texts) es) id us
with_units_of_entry row texts es id us {e} l builder is =
    let found = builder_entry row texts es id builder is in
    let is' = entry-read es id e found.0 is in
    let slots = take e.len (drop e.first row) in
    let units = slice_index_or texts e.text [] in
    write row texts 0 (length texts) id us es e l (omega arith) is' (ap text_count found.1) ∙
    sym (ap (with_units_in (map (object_in row texts) es) id us) (object-read row texts es id e is') ∙
    ap (slice_set (map (object_in row texts) es) id) (ap (λ k. with_units (object_of k slots units) us) found.1 ∙ sym (ap (λ k. object_of k slots us) found.1)))

pub same_count : (es : List Entry) (texts : List (List ℕ)) (n : ℕ) (us : List ℕ) → AreNumbered 0 es (length texts) → AreNumbered 0 es (length (slice_set texts n us))
same_count es texts n us l = subst (AreNumbered 0 es) (sym (length-set texts n us)) l

-- ---- an object more

numbered-on : (from end len first : ℕ) (es : List Entry) (kind : Kind) → AreNumbered from es end →
    AreNumbered from (es ++ record { kind = kind; first = first; len = len; text = end } ∷ []) (end + text_count kind)
numbered-on from end len first [] kind l = (sym l, ap (λ n. n + text_count kind) l)
numbered-on from end len first (e ∷ es) kind l = (l.0, numbered-on (from + text_count e.kind) end len first es kind l.1)

pub numbered_with : (es : List Entry) (kind : Kind) (first len count : ℕ) → AreNumbered 0 es count → text_count kind ≡ 0 →
    AreNumbered 0 (es ++ record { kind = kind; first = first; len = len; text = count } ∷ []) count
numbered_with es kind first len count l none =
    let last : count + text_count kind ≡ count = omega arith in
    subst (AreNumbered 0 (es ++ record { kind = kind; first = first; len = len; text = count } ∷ [])) last (numbered-on 0 count len first es kind l)

pub numbered_with_text : (es : List Entry) (kind : Kind) (first len : ℕ) (texts : List (List ℕ)) (us : List ℕ) → AreNumbered 0 es (length texts) → text_count kind ≡ 1 →
    AreNumbered 0 (es ++ record { kind = kind; first = first; len = len; text = length texts } ∷ []) (length (texts ++ us ∷ []))
numbered_with_text es kind first len texts us l one =
    let last : length texts + text_count kind ≡ length (texts ++ us ∷ []) = let more = length-append texts (us ∷ []) in omega arith in
    subst (AreNumbered 0 (es ++ record { kind = kind; first = first; len = len; text = length texts } ∷ [])) last (numbered-on 0 (length texts) len first es kind l)

may-have-none : (k : Kind) → MayHave k 0
may-have-none (Instance class) = tt
may-have-none (Array element) = tt
may-have-none Text = refl
may-have-none Builder = refl
may-have-none (Row class) = tt
may-have-none (Cap device class) = refl

pub laid_with_text : (row : List Value) (es : List Entry) (kind : Kind) (text : ℕ) → AreLaid 0 es (length row) →
    AreLaid 0 (es ++ record { kind = kind; first = length row; len = 0; text = text } ∷ []) (length row)
laid_with_text row es kind text l =
    let last : length row + 0 ≡ length row = omega arith in
    subst (AreLaid 0 (es ++ record { kind = kind; first = length row; len = 0; text = text } ∷ [])) last
    (laid-on 0 (length row) 0 text es kind l (may-have-none kind))

old-texts : (row : List Value) (texts more : List (List ℕ)) (es : List Entry) → AreNumbered 0 es (length texts) →
    map (object_in row (texts ++ more)) es ≡ map (object_in row texts) es
old-texts row texts more es l = texts-same row texts (texts ++ more) 0 (length texts) es l (λ n ge lt. get_or-append texts more [] n lt)

pub with_text_object : (row : List Value) (texts : List (List ℕ)) (us : List ℕ) (es : List Entry) (kind : Kind) → AreNumbered 0 es (length texts) →
    map (object_in row (texts ++ us ∷ [])) (es ++ record { kind = kind; first = length row; len = 0; text = length texts } ∷ []) ≡
    map (object_in row texts) es ++ object_of kind [] us ∷ []
with_text_object row texts us es kind l =
    let e : Entry = record { kind = kind; first = length row; len = 0; text = length texts } in
    let last : object_in row (texts ++ us ∷ []) e ≡ object_of kind [] us = ap (object_of kind []) (get_or-append_seam texts us [] []) in
    map-append (object_in row (texts ++ us ∷ [])) es (e ∷ []) ∙ rw (old-texts row texts (us ∷ []) es l) (rw last refl)

-- ---- the first objects alone

numbered-front : (from end n : ℕ) (es : List Entry) (e : Entry) → AreNumbered from es end → slice_get es n ≡ Some e → AreNumbered from (take n es) e.text
numbered-front from end n [] e l is = absurd (none-some e is)
numbered-front from end zero (f ∷ es) e l is = sym l.0 ∙ ap (λ (x : Entry). x.text) (same_Some f e is)
numbered-front from end (suc n) (f ∷ es) e l is = (l.0, numbered-front (from + text_count f.kind) end n es e l.1 is)

pub kept_numbered : (texts : List (List ℕ)) (es : List Entry) (n : ℕ) {e : Entry} → AreNumbered 0 es (length texts) → n < length es → e ≡ slice_index_or es n e →
    AreNumbered 0 (take n es) (length (take e.text texts))
kept_numbered texts es n {e} l lt is =
    let is' = entry-read es n e lt is in
    let end = (numbered-within 0 (length texts) n es e l is').1 in
    let le : e.text ≤ length texts = omega arith in
    subst (AreNumbered 0 (take n es)) (sym (length-take-le e.text texts le)) (numbered-front 0 (length texts) n es e l is')

front-slots : (row : List Value) (texts : List (List ℕ)) (es : List Entry) (n : ℕ) (e : Entry) → AreLaid 0 es (length row) → slice_get es n ≡ Some e →
    map (object_in (take e.first row) texts) (take n es) ≡ map (object_in row texts) (take n es)
front-slots row texts es n e l is =
    let end = (laid-within 0 (length row) n es e l is).1 in
    let le : e.first ≤ length row = omega arith in
    let front = take e.first row in
    let long : e.first ≡ length front = sym (length-take-le e.first row le) in
    sym (old-same front (drop e.first row) texts 0 e.first (take n es) (laid-front 0 (length row) n es e l is) (omega arith)) ∙
    ap (λ r. map (object_in r texts) (take n es)) (take-append-drop e.first row)

pub kept_objects : (row : List Value) (texts : List (List ℕ)) (es : List Entry) (n : ℕ) {e : Entry} → AreLaid 0 es (length row) → AreNumbered 0 es (length texts) →
    n < length es → e ≡ slice_index_or es n e →
    map (object_in (take e.first row) (take e.text texts)) (take n es) ≡ take n (map (object_in row texts) es)
kept_objects row texts es n {e} l numbered lt is =
    let is' = entry-read es n e lt is in
    texts-same (take e.first row) texts (take e.text texts) 0 e.text (take n es) (numbered-front 0 (length texts) n es e numbered is')
    (λ k ge lt'. get_or-take e.text texts k [] lt') ∙
    (front-slots row texts es n e l is' ∙ sym (take-map (object_in row texts) n es))

pub kept_all : (row : List Value) (texts : List (List ℕ)) (es : List Entry) (n : ℕ) → length es ≤ n → map (object_in row texts) es ≡ take n (map (object_in row texts) es)
kept_all row texts es n le = ap (map (object_in row texts)) (sym (take_all n es le)) ∙ sym (take-map (object_in row texts) n es)
