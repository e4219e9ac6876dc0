-- Bytes, by the form in which they are held.
use Rattle.std.specs.Prelude.{ℕ, List, ◌≤◌, ⊤, length, slice_range}
use Rattle.std.specs.Rc.{rc_slice_items}
use Rattle.idl_base.specs.declared.form.Form.{Form}
use Rattle.idl_base.specs.declared.form.Form.TheVariants.{Few, Part, Far}

-- in place or in a block they are all that is seen of them
abbrev pub form_bytes : Form → List ℕ
form_bytes (Few bytes) = bytes
form_bytes (Part from to block) = slice_range (rc_slice_items block) from to
form_bytes (Far far) = slice_range (rc_slice_items far.value.block) far.value.from far.value.to

-- they go from one place of their block up to another that isn't before it
abbrev pub IsWithin : Form → Type 0
IsWithin (Few _) = ⊤
IsWithin (Part from to block) = (from ≤ to) × (to ≤ length (rc_slice_items block))
IsWithin (Far far) =
    (far.value.from ≤ far.value.to) × (far.value.to ≤ length (rc_slice_items far.value.block))
