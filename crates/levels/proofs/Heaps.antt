-- Values, slots and objects of a heap that grows, that is written, and that gets a new object.
use Rattle.std.proofs.Common.{◌≡◌, inl, inr, ℕ, zero, suc, ◌<◌, Bool, true, false, ◌==◌, List, [], ◌∷◌, ◌++◌, length, Some, None, refl, sym, ap, subst, ◌∙◌}
use Rattle.std.specs.Prelude.{Option, slice_get, slice_set, replicate, filter, cond, pos, ◌-◌, if◌then◌else◌}
use Rattle.std.specs.List.{cons_option}
use Rattle.std.proofs.lemmas.Bool.{eqb-true}
use Rattle.std.proofs.lemmas.Option.{none-some, same_Some, slice_get_within}
use Rattle.base.proofs.Lists.{get_left, at_either, set_other}
use Rattle.base.proofs.Options.{if_taken}
use Rattle.core_program.specs.declared.types.CoreType.{CoreType}
use Rattle.core_program.specs.declared.types.CoreType.TheVariants as type
use Rattle.core_program.specs.Core.{Program, Class, Field, Method}
use Rattle.core_program.specs.Types.{field_type, field_types, parameter_types}
use Rattle.core_program.specs.Typed.{is_final_at}
use Rattle.state.specs.declared.value.Address.{Address}
use Rattle.state.specs.declared.value.Value.{Value}
use Rattle.state.specs.declared.value.Value.TheVariants as value
use Rattle.state.specs.Values.{default_value, top, under, popped, dropped, address_eq}
use Rattle.state.specs.Memory.{Object, lists, field_value, with_value, new_value, left_after, new_values}
use Rattle.state.specs.States.{fields_of, new_object, new_slots}
use Rattle.state.proofs.MemoryLemmas.{lists_is, set_same}
use Rattle.semantics.specs.Changes.{object_with}
use Rattle.semantics.proofs.Changed.{same_address, other_number}
use Rattle.reduction.proofs.FrameLemmas.{one_field}
use Rattle.levels.specs.SlotTypes.{SlotType, local_types, slot_types, taken_by_new, IsMarked, Suits, SuitEach, Has, HasEach, top_type, under_types, taken_types, dropped_types}
use Rattle.levels.specs.TypedStates.{Stays, IsTypedHeap, AreTypedSlots}

pub stays_itself : (objects : Address → Option Object) → Stays objects objects
stays_itself objects a o is = (o, is, refl)

module _ (mark : ℕ → ℕ) where
  -- what suits a type has it
  pub suits_value : (objects : Address → Option Object) (given wanted : SlotType) (v : Value) → Suits mark given wanted → Has mark objects given v → Has mark objects wanted v
  suits_value objects given wanted (value.Ref a) suits has = (has.0, has.1, suits (mark has.0.class) has.2)
  suits_value objects given wanted (value.Int n) suits has = tt
  suits_value objects given wanted (value.Truth b) suits has = tt
  suits_value objects given wanted value.Null suits has = tt

  module _ (old new : Address → Option Object) (stays : Stays old new) where
    pub has_stays : (t : SlotType) (v : Value) → Has mark old t v → Has mark new t v
    has_stays t (value.Ref a) (o, is, m) = let later = stays a o is in (later.0, later.1, subst (λ c. IsMarked mark t (mark c)) (sym later.2) m)
    has_stays t (value.Int n) has = tt
    has_stays t (value.Truth b) has = tt
    has_stays t value.Null has = tt

    pub each_stays : (ts : List SlotType) (vs : List Value) → HasEach mark old ts vs → HasEach mark new ts vs
    each_stays [] [] has = tt
    each_stays [] (v ∷ vs) has = absurd has
    each_stays (t ∷ ts) [] has = absurd has
    each_stays (t ∷ ts) (v ∷ vs) has = (has_stays t v has.0, each_stays ts vs has.1)

    pub slots_stay : (P : Program) (types : List CoreType) (slots : List Value) → AreTypedSlots P mark old types slots → AreTypedSlots P mark new types slots
    slots_stay P types slots typed x v is = has_stays (slice_get types x) v (typed x v is)

  module _ (objects : Address → Option Object) where
    pub top_has : (ts : List SlotType) (vs : List Value) → HasEach mark objects ts vs → Has mark objects (top_type ts) (top vs)
    top_has [] [] has = tt
    top_has [] (v ∷ vs) has = absurd has
    top_has (t ∷ ts) [] has = absurd has
    top_has (t ∷ ts) (v ∷ vs) has = has.0

    pub under_has : (ts : List SlotType) (vs : List Value) → HasEach mark objects ts vs → HasEach mark objects (under_types ts) (under vs)
    under_has [] [] has = tt
    under_has [] (v ∷ vs) has = absurd has
    under_has (t ∷ ts) [] has = absurd has
    under_has (t ∷ ts) (v ∷ vs) has = has.1

    pub dropped_has : (n : ℕ) (ts : List SlotType) (vs : List Value) → HasEach mark objects ts vs → HasEach mark objects (dropped_types n ts) (dropped n vs)
    dropped_has zero ts vs has = has
    dropped_has (suc n) ts vs has = dropped_has n (under_types ts) (under vs) (under_has ts vs has)

    pub taken_has : (n : ℕ) (ts found : List SlotType) (vs values : List Value) → HasEach mark objects ts vs → HasEach mark objects found values → HasEach mark objects (taken_types n found ts) (popped n values vs)
    taken_has zero ts found vs values has more = more
    taken_has (suc n) ts found vs values has more = taken_has n (under_types ts) (top_type ts ∷ found) (under vs) (top vs ∷ values) (under_has ts vs has) (top_has ts vs has, more)

    -- arguments of these types, one by one
    abbrev pub HasTypes : List CoreType → List Value → Type 0
    HasTypes [] vs = vs ≡ []
    HasTypes (t ∷ ts) [] = ⊥
    HasTypes (t ∷ ts) (v ∷ vs) = Has mark objects (Some t) v × HasTypes ts vs

    pub each_suits : (gs : List SlotType) (ws : List CoreType) (vs : List Value) → SuitEach mark gs ws → HasEach mark objects gs vs → HasTypes ws vs
    each_suits [] [] [] suit has = refl
    each_suits [] [] (v ∷ vs) suit has = absurd has
    each_suits [] (w ∷ ws) vs suit has = absurd suit
    each_suits (g ∷ gs) [] vs suit has = absurd suit
    each_suits (g ∷ gs) (w ∷ ws) [] suit has = absurd has
    each_suits (g ∷ gs) (w ∷ ws) (v ∷ vs) suit has = (suits_value objects g (Some w) v suit.0 has.0, each_suits gs ws vs suit.1 has.1)

    types_at : (ts : List CoreType) (vs : List Value) (x : ℕ) (v : Value) → HasTypes ts vs → slice_get vs x ≡ Some v → Has mark objects (slice_get ts x) v
    types_at [] vs x v has is = absurd (none-some v (ap (λ z. slice_get z x) (sym has) ∙ is))
    types_at (t ∷ ts) [] x v has is = absurd has
    types_at (t ∷ ts) (w ∷ vs) zero v has is = subst (Has mark objects (Some t)) (same_Some w v is) has.0
    types_at (t ∷ ts) (w ∷ vs) (suc x) v has is = types_at ts vs x v has.1 is

    types_count : (ts : List CoreType) (vs : List Value) → HasTypes ts vs → length vs ≡ length ts
    types_count [] vs has = ap length has
    types_count (t ∷ ts) [] has = absurd has
    types_count (t ∷ ts) (v ∷ vs) has = ap suc (types_count ts vs has.1)

    zeros : (n x : ℕ) (t : SlotType) (v : Value) → slice_get (replicate n (value.Int (pos 0))) x ≡ Some v → Has mark objects t v
    zeros zero x t v is = absurd (none-some v is)
    zeros (suc n) zero t v is = subst (Has mark objects t) (same_Some (value.Int (pos 0)) v is) tt
    zeros (suc n) (suc x) t v is = zeros n x t v is

    rest_at : (ts more : List CoreType) (vs : List Value) (n x : ℕ) (v : Value) → HasTypes ts vs → slice_get (vs ++ replicate n (value.Int (pos 0))) x ≡ Some v → Has mark objects (slice_get (ts ++ more) x) v
    rest_at ts more vs n x v has is = elim (at_either vs (replicate n (value.Int (pos 0))) x v is) [
      | inl first ↦ subst (λ o. Has mark objects o v) (sym (get_left ts more x (subst (λ k. x < k) (types_count ts vs has) (slice_get_within vs x v first)))) (types_at ts vs x v has first)
      | inr later ↦ zeros n later.0 (slice_get (ts ++ more) x) v later.2
    ]

    -- the slots of a new frame
    pub new_slots_typed : (P : Program) (method : Method) (this : Value) (arguments : List Value) → Has mark objects (Some (type.Class method.class)) this → HasTypes (parameter_types method) arguments
        → AreTypedSlots P mark objects (slot_types method) (new_slots method this arguments)
    new_slots_typed P method this arguments has each zero v is = subst (Has mark objects (Some (type.Class method.class))) (same_Some this v is) has
    new_slots_typed P method this arguments has each (suc x) v is = rest_at (parameter_types method) (local_types method.body) arguments (method.slots - length (this ∷ arguments)) x v each is

    -- a stored slot
    pub stored_typed : (P : Program) (types : List CoreType) (slots : List Value) (x : ℕ) (v old : Value) → slice_get slots x ≡ Some old → Has mark objects (slice_get types x) v
        → AreTypedSlots P mark objects types slots → AreTypedSlots P mark objects types (slice_set slots x v)
    stored_typed P types slots x v old is has typed y w at = by_same (x == y) refl
      where
        by_same : (b : Bool) → (x == y) ≡ b → Has mark objects (slice_get types y) w
        by_same true same =
            let e = eqb-true x y same in
            let value : v ≡ w = same_Some v w (sym (set_same slots x v old is) ∙ ap (slice_get (slice_set slots x v)) e ∙ at) in
            subst (λ z. Has mark objects (slice_get types z) w) e (subst (Has mark objects (slice_get types x)) value has)
        by_same false other = typed y w (sym (set_other slots x y v (other_number x y other)) ∙ at)

  -- Written objects.

  module _ (P : Program) where
    listed : (o : Object) (f : ℕ) (field : Field) (v : Value) → field_value P f (Some o) (Some field) ≡ Some v → (lists (slice_get P.classes o.class) field.index f ≡ true) × (slice_get o.values field.index ≡ Some v)
    listed o f field v is = if_taken (lists (slice_get P.classes o.class) field.index f) (slice_get o.values field.index) v is

    written_value : (objects : Address → Option Object) (o : Object) (f : ℕ) (x : Field) (v old : Value) → slice_get P.fields f ≡ Some x → field_value P f (Some o) (Some x) ≡ Some old → Has mark objects (Some x.ty) v
        → (g : ℕ) (y : Field) (w : Value) → slice_get P.fields g ≡ Some y → field_value P g (Some (with_value x.index v o)) (Some y) ≡ Some w
        → (field_value P g (Some o) (Some y) ≡ Some w → Has mark objects (Some y.ty) w) → Has mark objects (Some y.ty) w
    written_value objects o f x v old is has typed g y w at found before = by_same (x.index == y.index) refl
      where
        parts : (lists (slice_get P.classes o.class) y.index g ≡ true) × (slice_get (slice_set o.values x.index v) y.index ≡ Some w)
        parts = listed (with_value x.index v o) g y w found

        with_list : (u : Value) → slice_get o.values y.index ≡ Some u → field_value P g (Some o) (Some y) ≡ Some u
        with_list u get = ap (λ b. if b then slice_get o.values y.index else None) parts.0 ∙ get

        by_same : (b : Bool) → (x.index == y.index) ≡ b → Has mark objects (Some y.ty) w
        by_same true same =
            let e = eqb-true x.index y.index same in
            let old_at = (listed o f x old has).1 in
            let value : v ≡ w = same_Some v w (sym (set_same o.values x.index v old old_at) ∙ ap (slice_get (slice_set o.values x.index v)) e ∙ parts.1) in
            let one = one_field P o f g x y old old has (with_list old (sym (ap (slice_get o.values) e) ∙ old_at)) e in
            let field : x ≡ y = same_Some x y (sym is ∙ ap (slice_get P.fields) one ∙ at) in
            subst (λ (z : Field). Has mark objects (Some z.ty) w) field (subst (Has mark objects (Some x.ty)) value typed)
        by_same false other = before (with_list w (sym (set_other o.values x.index y.index v (other_number x.index y.index other)) ∙ parts.1))

    module _ (objects : Address → Option Object) where
      abbrev written : Address → ℕ → Value → Address → Option Object
      written a index v = λ b. if address_eq a b then object_with index v (objects a) else objects b

      with_class : (a b : Address) (index : ℕ) (v : Value) (o : Object) → objects b ≡ Some o → (t : Bool) → address_eq a b ≡ t → (p : Object) × ((if t then object_with index v (objects a) else objects b) ≡ Some p) × (p.class ≡ o.class)
      with_class a b index v o is true same = (with_value index v o, ap (object_with index v) (ap objects (same_address a b same) ∙ is), refl)
      with_class a b index v o is false other = (o, is, refl)

      pub written_stays : (a : Address) (index : ℕ) (v : Value) → Stays objects (written a index v)
      written_stays a index v b o is = with_class a b index v o is (address_eq a b) refl

      some_object : (a : Address) (f : ℕ) (x : Field) (old : Value) → field_value P f (objects a) (Some x) ≡ Some old → (o : Object) × (objects a ≡ Some o)
      some_object a f x old has = by_object (objects a) refl has
        where
          by_object : (o : Option Object) → objects a ≡ o → field_value P f o (Some x) ≡ Some old → (p : Object) × (objects a ≡ Some p)
          by_object None none e = absurd (none-some old e)
          by_object (Some p) is e = (p, is)

      pub written_typed : (a : Address) (f : ℕ) (x : Field) (v old : Value) → slice_get P.fields f ≡ Some x → field_value P f (objects a) (Some x) ≡ Some old → Has mark objects (Some x.ty) v
          → IsTypedHeap P mark objects → IsTypedHeap P mark (written a x.index v)
      written_typed a f x v old is has typed heap b g y w at found =
          has_stays objects (written a x.index v) (written_stays a x.index v) (Some y.ty) w (by_address (address_eq a b) refl found)
        where
          by_address : (t : Bool) → address_eq a b ≡ t → field_value P g (if t then object_with x.index v (objects a) else objects b) (Some y) ≡ Some w → Has mark objects (Some y.ty) w
          by_address true same f2 =
              let o = some_object a f x old has in
              written_value objects o.0 f x v old is (ap (λ z. field_value P f z (Some x)) (sym o.1) ∙ has) typed g y w at (ap (λ z. field_value P g (object_with x.index v z) (Some y)) (sym o.1) ∙ f2)
              (λ before. heap a g y w at (ap (λ z. field_value P g z (Some y)) o.1 ∙ before))
          by_address false other f2 = heap b g y w at f2

      -- New objects.

      abbrev made : Address → Object → Address → Option Object
      made a o = λ b. if address_eq a b then Some o else objects b

      pub made_stays : (a : Address) (o : Object) → objects a ≡ None → Stays objects (made a o)
      made_stays a o none b p is = by_address (address_eq a b) refl
        where
          by_address : (t : Bool) → address_eq a b ≡ t → (r : Object) × ((if t then Some o else objects b) ≡ Some r) × (r.class ≡ p.class)
          by_address true same = absurd (none-some p (sym none ∙ ap objects (same_address a b same) ∙ is))
          by_address false other = (p, is, refl)

      abbrev finals_in : List ℕ → List ℕ
      finals_in fs = filter (λ f. is_final_at (slice_get P.fields f)) fs

      default_has : (t : SlotType) (ty : CoreType) → Has mark objects t (default_value ty)
      default_has t type.Int = tt
      default_has t type.Boolean = tt
      default_has t (type.Class c) = tt

      -- the value at a place of a new object, of the field that stands there
      new_value_at : (fs : List ℕ) (vs : List Value) (n f : ℕ) (field : Field) (v : Value) → HasTypes objects (field_types P (finals_in fs)) vs → slice_get fs n ≡ Some f → slice_get P.fields f ≡ Some field
          → slice_get (new_values P fs vs) n ≡ Some v → Has mark objects (Some field.ty) v
      new_value_at [] vs n f field v has place is at = absurd (none-some f place)
      new_value_at (g ∷ fs) vs n f field v has place is at = by_field (slice_get P.fields g) refl at (λ ws has2 k place2 at2. new_value_at fs ws k f field v has2 place2 is at2)
        where
          by_final : (x : Field) → slice_get P.fields g ≡ Some x → (b : Bool) → x.is_final ≡ b → (n : ℕ) → slice_get (g ∷ fs) n ≡ Some f → slice_get ((if b then top vs else default_value x.ty) ∷ new_values P fs (if b then under vs else vs)) n ≡ Some v
              → ((ws : List Value) → HasTypes objects (field_types P (finals_in fs)) ws → (k : ℕ) → slice_get fs k ≡ Some f → slice_get (new_values P fs ws) k ≡ Some v → Has mark objects (Some field.ty) v) → Has mark objects (Some field.ty) v
          by_final x there true final n place at further = with_argument vs typed n place at
            where
              typed : HasTypes objects (x.ty ∷ field_types P (finals_in fs)) vs
              typed = subst (λ z. HasTypes objects z vs) (ap (λ b. field_types P (cond b (g ∷ finals_in fs) (finals_in fs))) (ap is_final_at there ∙ final) ∙ ap (λ o. cons_option o (field_types P (finals_in fs))) (ap field_type there)) has

              with_argument : (ws : List Value) → HasTypes objects (x.ty ∷ field_types P (finals_in fs)) ws → (n : ℕ) → slice_get (g ∷ fs) n ≡ Some f → slice_get (top ws ∷ new_values P fs (under ws)) n ≡ Some v → Has mark objects (Some field.ty) v
              with_argument [] t n place at = absurd t
              with_argument (w ∷ ws) t zero place at =
                  let same : x ≡ field = same_Some x field (sym there ∙ ap (slice_get P.fields) (same_Some g f place) ∙ is) in
                  subst (λ (z : Field). Has mark objects (Some z.ty) v) same (subst (Has mark objects (Some x.ty)) (same_Some w v at) t.0)
              with_argument (w ∷ ws) t (suc k) place at = further ws t.1 k place at
          by_final x there false mutable zero place at further = subst (Has mark objects (Some field.ty)) (same_Some (default_value x.ty) v at) (default_has (Some field.ty) x.ty)
          by_final x there false mutable (suc k) place at further = further vs
              (subst (λ z. HasTypes objects z vs) (ap (λ b. field_types P (cond b (g ∷ finals_in fs) (finals_in fs))) (ap is_final_at there ∙ mutable)) has) k place at

          by_field : (o : Option Field) → slice_get P.fields g ≡ o → slice_get (new_value o (top vs) ∷ new_values P fs (left_after o vs)) n ≡ Some v
              → ((ws : List Value) → HasTypes objects (field_types P (finals_in fs)) ws → (k : ℕ) → slice_get fs k ≡ Some f → slice_get (new_values P fs ws) k ≡ Some v → Has mark objects (Some field.ty) v) → Has mark objects (Some field.ty) v
          by_field None none at further = in_rest n place at
            where
              in_rest : (n : ℕ) → slice_get (g ∷ fs) n ≡ Some f → slice_get (value.Null ∷ new_values P fs vs) n ≡ Some v → Has mark objects (Some field.ty) v
              in_rest zero place at = subst (Has mark objects (Some field.ty)) (same_Some value.Null v at) tt
              in_rest (suc k) place at = further vs (subst (λ z. HasTypes objects z vs) (ap (λ b. field_types P (cond b (g ∷ finals_in fs) (finals_in fs))) (ap is_final_at none)) has) k place at
          by_field (Some x) there at further = by_final x there x.is_final refl n place at further

      new_field : (c : ℕ) (vs : List Value) (o : Option Class) → slice_get P.classes c ≡ o → ((class : Class) → o ≡ Some class → class.finals ≡ finals_in class.fields) → HasTypes objects (taken_by_new P o) vs
          → (f : ℕ) (field : Field) (v : Value) → slice_get P.fields f ≡ Some field → field_value P f (Some (record { class = c; values = new_values P (fields_of o) vs })) (Some field) ≡ Some v → Has mark objects (Some field.ty) v
      new_field c vs None there finals has f field v is found =
          let parts = if_taken (lists (slice_get P.classes c) field.index f) (slice_get (new_values P [] vs) field.index) v found in
          absurd (none-some v parts.1)
      new_field c vs (Some class) there finals has f field v is found =
          let parts = if_taken (lists (slice_get P.classes c) field.index f) (slice_get (new_values P class.fields vs) field.index) v found in
          let at = lists_is (slice_get P.classes c) field.index f parts.0 in
          let same : class ≡ at.0 = same_Some class at.0 (sym there ∙ at.1) in
          new_value_at class.fields vs field.index f field v (subst (λ z. HasTypes objects (field_types P z) vs) (finals class refl) has)
          (ap (λ (z : Class). slice_get z.fields field.index) same ∙ at.2) is parts.1

      pub made_typed : (a : Address) (c : ℕ) (vs : List Value) → objects a ≡ None → ((class : Class) → slice_get P.classes c ≡ Some class → class.finals ≡ finals_in class.fields)
          → HasTypes objects (taken_by_new P (slice_get P.classes c)) vs → IsTypedHeap P mark objects → IsTypedHeap P mark (made a (new_object P c vs))
      made_typed a c vs none finals has heap b f field v is found =
          has_stays objects (made a (new_object P c vs)) (made_stays a (new_object P c vs) none) (Some field.ty) v (by_address (address_eq a b) refl found)
        where
          by_address : (t : Bool) → address_eq a b ≡ t → field_value P f (if t then Some (new_object P c vs) else objects b) (Some field) ≡ Some v → Has mark objects (Some field.ty) v
          by_address true same found2 = new_field c vs (slice_get P.classes c) refl finals has f field v is found2
          by_address false other found2 = heap b f field v is found2
