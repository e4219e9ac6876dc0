-- Items behind pointers.
use Rattle.std.specs.Prelude.{List, [], Option, None, Some}
use Rattle.std.specs.declared.alloc.Global.{Global}
use Rattle.std.specs.declared.rc.Rc.{Rc}

-- the items behind a pointer, if there is one
abbrev pub items_of : {T : Type 0} → Option (Rc (List T) Global) → List T
items_of None = []
items_of (Some items) = items.value
