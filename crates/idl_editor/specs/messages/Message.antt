-- Which message a value is (JSON-RPC 2.0).
use Rattle.std.specs.Prelude.{◌≡◌, ◌⊎◌, Bool, true, false, ◌||◌, codes, Option, None, Some, is_some}
use Rattle.std.specs.Option.{option_map}
use Rattle.serde_json.specs.Data.{Data, null, boolean, number, string, array, object}
use Rattle.serde_json.specs.Find.{get}
use Rattle.serde_json.specs.View.{view}
use Rattle.serde_json.specs.declared.value.Value.{Value}
use Rattle.std.specs.Borrow.{Bor}
use Rattle.idl_editor.specs.messages.Fields.{text_at}
use Rattle.idl_editor.specs.messages.Method.{method_of}
use Rattle.idl_editor.specs.declared.messages.message.Message.{Message}
use Rattle.idl_editor.specs.declared.messages.message.Message.TheVariants.{Request, Notice, Answer, Invalid}
use Rattle.idl_editor.specs.declared.messages.method.Method.{Method}

-- a number or a text may be an id
abbrev pub is_id : Data → Bool
is_id null = false
is_id (boolean _) = false
is_id (number _) = true
is_id (string _) = true
is_id (array _) = false
is_id (object _) = false

-- the method that a message names
abbrev pub method_in : Data → Option Method
method_in json = option_map method_of (text_at (codes "method") json)

-- its parameters
abbrev pub params_in : Data → Option Data
params_in json = get (codes "params") json

-- its id
abbrev pub id_in : Data → Option Data
id_in json = get (codes "id") json

-- it tells what came of a request
abbrev pub is_answer : Data → Bool
is_answer json = is_some (get (codes "result") json) || is_some (get (codes "error") json)

-- its id is none, or it names no method and tells nothing
abbrev pub IsNoMessage : Data → Type 0
IsNoMessage json =
    ((id : Data) × (id_in json ≡ Some id) × (is_id id ≡ false))
    ⊎ ((method_in json ≡ None) × (is_answer json ≡ false))

-- the values that are lent
abbrev pub seen : Option (Bor Value) → Option Data
seen value = option_map (λ v. view v.now) value

-- what a value is: with a method and an id a request, with a method alone a notice, with neither an
-- answer if it tells what came of a request, and all else is none
abbrev pub IsMessage : Data → Message → Type 0
IsMessage json (Request id method params) =
    (id_in json ≡ Some (view id.now)) × (is_id (view id.now) ≡ true)
    × (method_in json ≡ Some method) × (params_in json ≡ seen params)
IsMessage json (Notice method params) =
    (id_in json ≡ None) × (method_in json ≡ Some method) × (params_in json ≡ seen params)
IsMessage json Answer = (method_in json ≡ None) × (is_answer json ≡ true)
IsMessage json Invalid = IsNoMessage json
