-- The size of a type from the sizes of its members.
use Rattle.std.proofs.Common.{◌≡◌, ◌<◌, ◌≤◌, ◌+◌, ℕ, zero, suc, List, [], ◌∷◌, ◌++◌, map, length, take, get_or, refl, sym, ◌∙◌, ap, subst, Option, Some, None, option_map, add_comm, add-one, arith}
use Rattle.std.specs.Prelude.{slice_get}
use Rattle.std.proofs.lemmas.Option.{none-some, same_Some}
use Rattle.std.proofs.Math.Seq.{take-suc}
use Rattle.edl_grammar.specs.declared.Gathered.{Gathered}
use Rattle.edl_grammar.specs.declared.Declared.{Declared}
use Rattle.edl_grammar.specs.declared.Written.{Written}
use Rattle.edl_grammar.specs.declared.EnumValue.{EnumValue}
use Rattle.edl_grammar.specs.declared.TypeDecl.{TypeDecl}
use Rattle.edl_grammar.specs.declared.TypeDecl.TheVariants as decl
use Rattle.edl_grammar.specs.Files.{TypeIn, types_of}
use Rattle.edl_layout.specs.declared.ForeignTypes.{ForeignTypes}
use Rattle.edl_layout.specs.declared.sizes.TypeSize.{TypeSize}
use Rattle.edl_layout.specs.declared.sizes.TypeSize.TheVariants as size
use Rattle.edl_layout.specs.declared.sizes.Members.{Members}
use Rattle.edl_layout.specs.declared.sizes.Members.TheVariants as members
use Rattle.edl_layout.specs.Shape.{Shape, all_known, address, array_shape, structure_shape, union_shape, square}
use Rattle.edl_layout.specs.declared.extents.Extent.{Extent}
use Rattle.edl_layout.specs.Ends.{shape_at}
use Rattle.edl_layout.specs.Meaning.{Meaning, Empty, Real, Integer, Defined, Foreign, Opaque, Undeclared, meaning, held_by, pointed, members_of, decl_shape, shape_within, HasShape}
use Rattle.edl_layout.specs.Targets.{fixed_shape}
use Rattle.edl_layout.specs.Sizes.{Has, capped, with_member, with_dims, structure_size, union_size, no_fields, holds_of, shape_at_depth, HasMemberShape, HasShapes, IsDone, IsElementSize, IsMemberSize, AreMembers, IsNextSize, IsTypeSize, IsShort, AreSizes, AreSettled}
use Rattle.edl_layout.proofs.Growing.{mapped, Grows, base_shape, grows_by, member_grows, known_grows}
use Rattle.edl_layout.proofs.Doneness.{short_by_members}
use Rattle.edl_layout.proofs.Capping.{array_capped, structure_capped, union_capped, one_more_field}

-- ---- lists with one item more

pub has_front : {X : Type 0} (xs : List X) (y x : X) → Has xs x → Has (xs ++ y ∷ []) x
has_front [] y x (k, e) = absurd (none-some x e)
has_front (z ∷ xs) y x (zero, e) = (zero, e)
has_front (z ∷ xs) y x (suc k, e) = let p = has_front xs y x (k, e) in (suc p.0, p.1)

pub has_last : {X : Type 0} (xs : List X) (y : X) → Has (xs ++ y ∷ []) y
has_last [] y = (zero, refl)
has_last (z ∷ xs) y = let p = has_last xs y in (suc p.0, p.1)

pub has_push : {X : Type 0} (P : X → Type 0) (xs : List X) (y : X) → ((x : X) → Has xs x → P x) → P y → (x : X) → Has (xs ++ y ∷ []) x → P x
has_push P [] y all last x (zero, e) = subst P (same_Some y x e) last
has_push P [] y all last x (suc k, e) = absurd (none-some x e)
has_push P (z ∷ xs) y all last x (zero, e) = all x (zero, e)
has_push P (z ∷ xs) y all last x (suc k, e) = has_push P xs y (λ w (j, d). all w (suc j, d)) last x (k, e)

pub take_next : {X : Type 0} (xs : List X) (i : ℕ) (d : X) → i < length xs → take (i + 1) xs ≡ take i xs ++ get_or xs i d ∷ []
take_next xs i d h = ap (λ n. take n xs) (add-one i) ∙ take-suc xs i d h

-- ---- shapes of lists

module _ {X : Type 0} (f : X → Option Shape) where
  pub record Split (xs : List X) (x : X) (ss : List Shape) : Type 0 where
    pub front : List Shape
    pub last : Shape
    pub front_is : all_known (map f xs) ≡ Some front
    pub last_is : f x ≡ Some last
    pub whole : front ++ last ∷ [] ≡ ss

  pub known_split : (xs : List X) (x : X) (ss : List Shape) → all_known (map f (xs ++ x ∷ [])) ≡ Some ss → Split xs x ss
  known_split [] x ss e = by (f x) refl e
    where
      by : (o : Option Shape) → f x ≡ o → all_known (o ∷ []) ≡ Some ss → Split [] x ss
      by None is d = absurd (none-some ss d)
      by (Some s) is d = record { front = []; last = s; front_is = refl; last_is = is; whole = same_Some (s ∷ []) ss d }
  known_split (y ∷ xs) x ss e = by (f y) refl e (known_split xs x)
    where
      by : (o : Option Shape) → f y ≡ o → all_known (o ∷ map f (xs ++ x ∷ [])) ≡ Some ss → ((ts : List Shape) → all_known (map f (xs ++ x ∷ [])) ≡ Some ts → Split xs x ts) → Split (y ∷ xs) x ss
      by None is d rest = absurd (none-some ss d)
      by (Some s) is d rest =
          let p = mapped (◌∷◌ s) (all_known (map f (xs ++ x ∷ []))) ss d in
          let q = rest p.0 p.1 in
          record {
            front = s ∷ q.front;
            last = q.last;
            front_is = rw is (ap (option_map (◌∷◌ s)) q.front_is);
            last_is = q.last_is;
            whole = ap (◌∷◌ s) q.whole ∙ p.2;
          }

  pub known_join : (xs : List X) (x : X) (front : List Shape) (s : Shape) → all_known (map f xs) ≡ Some front → f x ≡ Some s → all_known (map f (xs ++ x ∷ [])) ≡ Some (front ++ s ∷ [])
  known_join [] x front s e is = rw is (ap (λ ss. Some (ss ++ s ∷ [])) (same_Some [] front e))
  known_join (y ∷ xs) x front s e is = by (f y) refl e (λ ts d. known_join xs x ts s d is)
    where
      by : (o : Option Shape) → f y ≡ o → all_known (o ∷ map f xs) ≡ Some front → ((ts : List Shape) → all_known (map f xs) ≡ Some ts → all_known (map f (xs ++ x ∷ [])) ≡ Some (ts ++ s ∷ []))
          → all_known (map f (y ∷ xs ++ x ∷ [])) ≡ Some (front ++ s ∷ [])
      by None is' d rest = absurd (none-some front d)
      by (Some t) is' d rest =
          let p = mapped (◌∷◌ t) (all_known (map f xs)) front d in
          rw is' (ap (option_map (◌∷◌ t)) (rest p.0 p.1) ∙ ap (λ ss. Some (ss ++ s ∷ [])) p.2)

  pub unknown_one : (xs : List X) (x : X) → Has xs x → f x ≡ None → all_known (map f xs) ≡ None
  unknown_one [] x (k, e) is = absurd (none-some x e)
  unknown_one (y ∷ xs) x (zero, e) is = rw (ap f (same_Some y x e) ∙ is) refl
  unknown_one (y ∷ xs) x (suc k, e) is = by (f y) (unknown_one xs x (k, e) is)
    where
      by : (o : Option Shape) → all_known (map f xs) ≡ None → all_known (o ∷ map f xs) ≡ None
      by None rest = refl
      by (Some s) rest = ap (option_map (◌∷◌ s)) rest

module _ (g : Gathered) (foreign : ForeignTypes) where
  -- ---- one member

  pub held_is : (m : Meaning) (stars : ℕ) (t : TypeIn) → held_by m stars ≡ Some t → (m ≡ Defined t) × (stars ≡ zero)
  held_is Empty stars t e = absurd (none-some t e)
  held_is (Real size) stars t e = absurd (none-some t e)
  held_is (Integer size signed) stars t e = absurd (none-some t e)
  held_is (Defined u) zero t e = (ap Defined (same_Some u t e), refl)
  held_is (Defined u) (suc n) t e = absurd (none-some t e)
  held_is (Foreign s) stars t e = absurd (none-some t e)
  held_is Opaque stars t e = absurd (none-some t e)
  held_is Undeclared stars t e = absurd (none-some t e)

  pub dims_size : (sizes : List TypeSize) (m : Declared) (z : TypeSize) → IsElementSize g foreign sizes m.written z → IsMemberSize g foreign sizes m (with_dims z m.dims)
  dims_size sizes m size.Waiting h = h
  dims_size sizes m size.Unsized h =
      (h.0, λ s has. let p = mapped (array_shape m.dims) (pointed m.written.stars (base_shape g foreign has.depth m.written.base)) s has.found in h.1 p.0 (has.depth, p.1))
  dims_size sizes m (size.Known e) h =
      (h.0, (array_shape m.dims h.1.0, (record { depth = h.1.1.0; found = ap (option_map (array_shape m.dims)) h.1.1.1 }), array_capped m.dims h.1.0 e h.1.2))

  address_of : (stars : ℕ) (o : Option Shape) → 0 < stars → pointed stars o ≡ Some address
  address_of zero o low = absurd (omega (arith, low))
  address_of (suc n) o low = refl

  pub pointer_size : (sizes : List TypeSize) (w : Written) → 0 < w.stars → IsElementSize g foreign sizes w (size.Known (record { size = 8; align = 8 }))
  pointer_size sizes w low = (
    λ t holds. let e = (held_is (meaning g foreign w.base) w.stars t holds).1 in absurd (omega (arith, low, e)),
    (address, (0, address_of w.stars (base_shape g foreign 0 w.base) low), refl),
  )

  pub fixed_found : (m : Meaning) (s : Shape) → fixed_shape m ≡ Some s → shape_within g foreign 0 m ≡ Some s
  fixed_found Empty s e = absurd (none-some s e)
  fixed_found (Real size) s e = e
  fixed_found (Integer size signed) s e = e
  fixed_found (Defined t) s e = absurd (none-some s e)
  fixed_found (Foreign t) s e = e
  fixed_found Opaque s e = absurd (none-some s e)
  fixed_found Undeclared s e = absurd (none-some s e)

  pub fixed_size : (sizes : List TypeSize) (w : Written) (s : Shape) (e : Extent) → w.stars ≤ 0 → fixed_shape (meaning g foreign w.base) ≡ Some s → shape_at e ≡ capped s → IsElementSize g foreign sizes w (size.Known e)
  fixed_size sizes w s e low is same =
      let none : w.stars ≡ 0 = omega arith in (
        λ t holds. let d = (held_is (meaning g foreign w.base) w.stars t holds).0 in absurd (none-some s (ap fixed_shape (sym d) ∙ is)),
        (s, (0, ap (λ n. pointed n (base_shape g foreign 0 w.base)) none ∙ fixed_found (meaning g foreign w.base) s is), sym same),
      )

  -- what holds a declared type has the size of that type
  pub declared_size : (sizes : List TypeSize) (w : Written) (t : TypeIn) (i : ℕ) (z : TypeSize) → AreSizes g foreign sizes → w.stars ≤ 0 → meaning g foreign w.base ≡ Defined t
      → slice_get (types_of g) i ≡ Some t → slice_get sizes i ≡ Some z → IsElementSize g foreign sizes w z
  declared_size sizes w t i z sound low is place got = by z (sound.each i t z place got) got
    where
      none : w.stars ≡ 0
      none = omega arith

      holds : holds_of g foreign w ≡ Some t
      holds = ap (λ n. held_by (meaning g foreign w.base) n) none ∙ ap (λ m. held_by m 0) is

      done : IsShort g foreign t → IsDone g foreign w
      done short u e = subst (λ (v : TypeIn). IsShort g foreign v) (same_Some t u (sym holds ∙ e)) short

      same : (n : ℕ) → pointed w.stars (base_shape g foreign n w.base) ≡ shape_within g foreign n (Defined t)
      same n = ap (λ k. pointed k (base_shape g foreign n w.base)) none ∙ ap (shape_within g foreign n) is

      by : (y : TypeSize) → IsTypeSize g foreign t y → slice_get sizes i ≡ Some y → IsElementSize g foreign sizes w y
      by size.Waiting h at = record { type = t; number = i; held = holds; place = place; waiting = at }
      by size.Unsized h at = (done h.0, λ s (n, e). h.1 s (n, sym (same n) ∙ e))
      by (size.Known x) h at = (done h.0, (h.1.0, (h.1.1.0, same h.1.1.0 ∙ h.1.1.1), h.1.2))

  -- what has no shape of its own
  pub shapeless : (sizes : List TypeSize) (w : Written) (m : Meaning) → w.stars ≤ 0 → meaning g foreign w.base ≡ m → ((n : ℕ) → shape_within g foreign n m ≡ None) → ((t : TypeIn) → m ≡ Defined t → ⊥) → IsElementSize g foreign sizes w size.Unsized
  shapeless sizes w m low is never apart =
      let none : w.stars ≡ 0 = omega arith in (
        λ t holds. absurd (apart t (sym is ∙ (held_is (meaning g foreign w.base) w.stars t holds).0)),
        λ s (n, e). none-some s (sym (never n) ∙ ap (shape_within g foreign n) (sym is) ∙ ap (λ k. pointed k (base_shape g foreign n w.base)) (sym none) ∙ e),
      )

  -- ---- one member more

  base_grows : (k n : ℕ) → Grows (base_shape g foreign n) (base_shape g foreign (k + n))
  base_grows k n b s e = grows_by g foreign k n (meaning g foreign b) s e

  pub join : (ms : List Declared) (m : Declared) (ss : List Shape) (s : Shape) → HasShapes g foreign ms ss → HasMemberShape g foreign m s → HasShapes g foreign (ms ++ m ∷ []) (ss ++ s ∷ [])
  join ms m ss s a b = record {
    depth = b.depth + a.depth;
    found =
        known_join (shape_at_depth g foreign (b.depth + a.depth)) ms m ss s
        (known_grows g foreign (base_shape g foreign a.depth) (base_shape g foreign (b.depth + a.depth)) (base_grows b.depth a.depth) ms ss a.found)
        (let P : ℕ → Type 0 = λ n. shape_at_depth g foreign n m ≡ Some s in
        subst P (add_comm a.depth b.depth) (member_grows g foreign (base_shape g foreign b.depth) (base_shape g foreign (a.depth + b.depth)) (base_grows a.depth b.depth) m s b.found));
  }

  pub front_shapes : (ms : List Declared) (m : Declared) (ss : List Shape) → HasShapes g foreign (ms ++ m ∷ []) ss → (front : List Shape) × HasShapes g foreign ms front
  front_shapes ms m ss h = let p = known_split (shape_at_depth g foreign h.depth) ms m ss h.found in (p.front, record { depth = h.depth; found = p.front_is })

  last_shape : (ms : List Declared) (m : Declared) (ss : List Shape) → HasShapes g foreign (ms ++ m ∷ []) ss → (s : Shape) × HasMemberShape g foreign m s
  last_shape ms m ss h = let p = known_split (shape_at_depth g foreign h.depth) ms m ss h.found in (p.last, record { depth = h.depth; found = p.last_is })

  pub one_more_member : (sizes : List TypeSize) (ms : List Declared) (m : Declared) (a : Members) (b : TypeSize)
      → AreMembers g foreign sizes ms a → IsMemberSize g foreign sizes m b → AreMembers g foreign sizes (ms ++ m ∷ []) (with_member a b)
  one_more_member sizes ms m members.Waiting b h i = (h.0, has_front ms m h.0 h.1, h.2)
  one_more_member sizes ms m members.Unsized size.Waiting h i = (m, has_last ms m, i)
  one_more_member sizes ms m members.Unsized size.Unsized h i =
      (has_push (λ (x : Declared). IsDone g foreign x.written) ms m h.0 i.0, λ ss has. let p = front_shapes ms m ss has in h.1 p.0 p.1)
  one_more_member sizes ms m members.Unsized (size.Known e) h i =
      (has_push (λ (x : Declared). IsDone g foreign x.written) ms m h.0 i.0, λ ss has. let p = front_shapes ms m ss has in h.1 p.0 p.1)
  one_more_member sizes ms m (members.Known f) size.Waiting h i = (m, has_last ms m, i)
  one_more_member sizes ms m (members.Known f) size.Unsized h i =
      (has_push (λ (x : Declared). IsDone g foreign x.written) ms m h.0 i.0, λ ss has. let p = last_shape ms m ss has in i.1 p.0 p.1)
  one_more_member sizes ms m (members.Known f) (size.Known e) h i = (
    has_push (λ (x : Declared). IsDone g foreign x.written) ms m h.0 i.0,
    (h.1.0 ++ i.1.0 ∷ [], join ms m h.1.0 i.1.0 h.1.1 i.1.1, one_more_field h.1.0 i.1.0 f e h.1.2 i.1.2),
  )

  pub no_members : (sizes : List TypeSize) → AreMembers g foreign sizes [] (members.Known no_fields)
  no_members sizes = (λ m (k, e). absurd (none-some m e), ([], record { depth = 0; found = refl }, refl))

  pub next_member : (sizes : List TypeSize) (ms : List Declared) (i : ℕ) (d : Declared) (a : Members) (b : TypeSize) → i < length ms
      → AreMembers g foreign sizes (take i ms) a → IsMemberSize g foreign sizes (get_or ms i d) b → AreMembers g foreign sizes (take (i + 1) ms) (with_member a b)
  next_member sizes ms i d a b low h is =
      let P : List Declared → Type 0 = λ xs. AreMembers g foreign sizes xs (with_member a b) in
      subst P (sym (take_next ms i d low)) (one_more_member sizes (take i ms) (get_or ms i d) a b h is)

  -- ---- a whole type

  pub structure_next : (sizes : List TypeSize) (file token : ℕ) (name : List ℕ) (ms : List Declared) (a : Members) → AreMembers g foreign sizes ms a
      → IsNextSize g foreign sizes (record { file = file; decl = decl.Structure token name ms }) (structure_size a)
  structure_next sizes file token name ms members.Waiting h = h
  structure_next sizes file token name ms members.Unsized h = (short_by_members g foreign (record { file = file; decl = decl.Structure token name ms }) h.0, no)
    where
      no : (s : Shape) → HasShape g foreign (Defined (record { file = file; decl = decl.Structure token name ms })) s → ⊥
      no s (zero, e) = none-some s e
      no s (suc n, e) = let p = mapped structure_shape (all_known (map (shape_at_depth g foreign n) ms)) s e in h.1 p.0 (record { depth = n; found = p.1 })
  structure_next sizes file token name ms (members.Known f) h = (
    short_by_members g foreign (record { file = file; decl = decl.Structure token name ms }) h.0,
    (structure_shape h.1.0, (suc h.1.1.depth, ap (option_map structure_shape) h.1.1.found), structure_capped h.1.0 f h.1.2),
  )

  pub union_next : (sizes : List TypeSize) (file token : ℕ) (name : List ℕ) (ms : List Declared) (a : Members) → AreMembers g foreign sizes ms a
      → IsNextSize g foreign sizes (record { file = file; decl = decl.Union token name ms }) (union_size a)
  union_next sizes file token name ms members.Waiting h = h
  union_next sizes file token name ms members.Unsized h = (short_by_members g foreign (record { file = file; decl = decl.Union token name ms }) h.0, no)
    where
      no : (s : Shape) → HasShape g foreign (Defined (record { file = file; decl = decl.Union token name ms })) s → ⊥
      no s (zero, e) = none-some s e
      no s (suc n, e) = let p = mapped union_shape (all_known (map (shape_at_depth g foreign n) ms)) s e in h.1 p.0 (record { depth = n; found = p.1 })
  union_next sizes file token name ms (members.Known f) h = (
    short_by_members g foreign (record { file = file; decl = decl.Union token name ms }) h.0,
    (union_shape h.1.0, (suc h.1.1.depth, ap (option_map union_shape) h.1.1.found), union_capped h.1.0 f h.1.2),
  )

  pub enumeration_next : (file token : ℕ) (name : Option (List ℕ)) (values : List EnumValue) (e : Extent) → shape_at e ≡ square 4
      → IsTypeSize g foreign (record { file = file; decl = decl.Enumeration token name values }) (size.Known e)
  enumeration_next file token name values e is =
      (short_by_members g foreign (record { file = file; decl = decl.Enumeration token name values }) (λ m (k, d). absurd (none-some m d)), (square 4, (1, refl), sym is))

  -- ---- types that wait for ever

  -- what holds a type without a shape has none
  pub no_member_shape : (n : ℕ) (m : Declared) (t : TypeIn) → holds_of g foreign m.written ≡ Some t → shape_within g foreign n (Defined t) ≡ None → shape_at_depth g foreign n m ≡ None
  no_member_shape n m t holds unknown =
      let p = held_is (meaning g foreign m.written.base) m.written.stars t holds in
      ap (λ k. option_map (array_shape m.dims) (pointed k (base_shape g foreign n m.written.base))) p.1
      ∙ ap (λ x. option_map (array_shape m.dims) (shape_within g foreign n x)) p.0
      ∙ ap (option_map (array_shape m.dims)) unknown

  no_decl_shape : (n : ℕ) (t : TypeIn) (m : Declared) → Has (members_of t.decl) m → shape_at_depth g foreign n m ≡ None → shape_within g foreign (suc n) (Defined t) ≡ None
  no_decl_shape n t m has unknown = by t.decl has
    where
      by : (d : TypeDecl) → Has (members_of d) m → decl_shape g foreign (base_shape g foreign n) d ≡ None
      by (decl.Enumeration token name values) (k, e) = absurd (none-some m e)
      by (decl.Structure token name ms) h = ap (option_map structure_shape) (unknown_one (shape_at_depth g foreign n) ms m h unknown)
      by (decl.Union token name ms) h = ap (option_map union_shape) (unknown_one (shape_at_depth g foreign n) ms m h unknown)

  pub never_found : (sizes : List TypeSize) → AreSettled g foreign sizes → (n i : ℕ) (t : TypeIn) → slice_get (types_of g) i ≡ Some t → slice_get sizes i ≡ Some size.Waiting → shape_within g foreign n (Defined t) ≡ None
  never_found sizes settled zero i t place waits = refl
  never_found sizes settled (suc n) i t place waits =
      let p = settled i t place waits in
      no_decl_shape n t p.0 p.1 (no_member_shape n p.0 p.2.type p.2.held (never_found sizes settled n p.2.number p.2.type p.2.place p.2.waiting))
