-- What the program tells of a failure.
use Rattle.std.specs.Prelude.{◌≡◌, ℕ, ◌&&◌, List, [], ◌++◌, Option, codes, length, nat_eq, if◌then◌else◌}
use Rattle.std.specs.Borrow.{Bor}
use Rattle.std.specs.List.{AllZip, concat}
use Rattle.std.specs.String.{string_bytes}
use Rattle.idl_explain.specs.Explained.{ended, headline, topic_of}
use Rattle.idl_explain.specs.declared.explanation.Explanation.{Explanation}
use Rattle.idl_explain.specs.declared.explanation.Topic.TheVariants as topic
use Rattle.idl_driver.specs.Messages.{message_of, name_of, named_line}
use Rattle.idl_driver.specs.Written.{WritesSome}
use Rattle.idl_driver.specs.declared.compilation.SoundFiles.{SoundFiles}
use Rattle.idl_driver.specs.declared.failure.CompileFault.{CompileFault}
use Rattle.idl_driver.specs.declared.failure.CompileFault.TheVariants as fault
use Rattle.idl_driver.specs.declared.failure.ProgramFailure.{ProgramFailure}
use Rattle.idl_driver.specs.declared.limit.Limit.{Limit}
use Rattle.idl_driver.specs.declared.limit.Limit.TheVariants as limit
use Rattle.idl_driver.specs.declared.failure.ProgramFailure.TheVariants as program
use Rattle.idl_source.specs.declared.refusal.Refusal.{Refusal}
use Rattle.idl_source.specs.declared.refusal.Refusal.TheVariants.{BadName}
use Rattle.idl_source.specs.devices.Device.{append}
use Rattle.idl_loader.specs.declared.status.Status.{Status}
use Rattle.idl_loader.specs.declared.status.Status.TheVariants.{Failed}
use Rattle.idl_tool.specs.declared.failure.ToolFailure.{ToolFailure}
use Rattle.idl_tool.specs.declared.failure.ToolFailure.TheVariants as failure

-- a line of the program about a name
abbrev pub line_about : List ℕ → List ℕ → List ℕ
line_about name told = named_line (codes "idltool") name told

-- the line about a name that is refused, with what explains the refusal
abbrev pub IsRefusedMessage : List ℕ → Refusal → List ℕ → Type 0
IsRefusedMessage name refusal text =
    (explanation : Explanation) × (topic_of explanation.told ≡ topic.Refusal refusal)
    × (text ≡ codes "idltool: " ++ name ++ codes ": " ++ headline explanation [])

-- what a limit says that is passed
abbrev pub limit_words : Limit → List ℕ
limit_words limit.LineBytes = codes "a line of more than 4,096 bytes"
limit_words limit.Lines = codes "more than 200,000 lines"
limit_words limit.Files = codes "more than 4,096 files"
limit_words limit.BodyBytes = codes "a body of more than 4,096 bytes"
limit_words limit.Macros = codes "more than 4,096 macros"
limit_words limit.Directories = codes "more than 256 directories"
limit_words limit.Roots = codes "more than 256 files"

-- the line about a name that passes a limit
abbrev pub limit_message : List ℕ → Limit → List ℕ
limit_message name limit =
    codes "idltool: " ++ name ++ codes ": refused 5: " ++ ended (limit_words limit)

-- what each of the programs may tell: of a refusal this one explains it
abbrev pub IsProgramMessage : ProgramFailure → List ℕ → Type 0
IsProgramMessage (program.Refused subject refusal) text =
    IsRefusedMessage (name_of subject) refusal text
IsProgramMessage (program.OverLimit subject limit) text =
    text ≡ limit_message (name_of subject) limit
IsProgramMessage other text = text ≡ message_of (codes "idltool") other

abbrev pub IsMessage : ToolFailure → List ℕ → Type 0
IsMessage (failure.Words told) text = text ≡ string_bytes told
IsMessage (failure.NoTopic word) text =
    text ≡ line_about word.now (codes "no code and no refusal")
IsMessage (failure.NoMakeName subject) text =
    text ≡ line_about (name_of subject) (codes "no name for make")
IsMessage (failure.Program failure) text = IsProgramMessage failure text

-- the line about trouble with a file
abbrev pub IsFaultMessage : CompileFault → List ℕ → Type 0
IsFaultMessage (fault.Refused name refusal) text = IsRefusedMessage name refusal text
IsFaultMessage (fault.OverLimit name limit) text = text ≡ limit_message name limit
IsFaultMessage (fault.CannotRead name) text = text ≡ line_about name (codes "cannot read")

-- a text of this sort stands behind another one
abbrev pub IsBehind : (List ℕ → Type 0) → List ℕ → List ℕ → Type 0
IsBehind sort before after = (text : List ℕ) × sort text × (after ≡ before ++ text)

-- lines of this sort, one of each of these, in order
abbrev pub AreLines : {X : Type 0} → (X → List ℕ → Type 0) → List X → List ℕ → Type 0
AreLines sort xs text =
    (lines : List (List ℕ)) × AllZip sort xs lines × (text ≡ concat lines)

-- a FILE that leads to no name is refused
abbrev pub IsNamelessMessage : Bor (List ℕ) → List ℕ → Type 0
IsNamelessMessage word text = IsRefusedMessage word.now BadName text

-- a line of each trouble with files
abbrev pub AreTroubleMessages : SoundFiles → List ℕ → Type 0
AreTroubleMessages files text = (first second : List ℕ)
    × AreLines IsNamelessMessage files.nameless.items first
    × AreLines IsFaultMessage files.sound.faults.items second × (text ≡ first ++ second)

-- how the program ends after these troubles, where it would else end so
abbrev pub ended_by : SoundFiles → Status → Status
ended_by files status =
    if nat_eq (length files.nameless.items) 0 && nat_eq (length files.sound.faults.items) 0
    then status else Failed

-- it went out
abbrev pub IsTold : ToolFailure → Option (List ℕ) → Option (List ℕ) → Type 0
IsTold failure before after =
    (text : List ℕ) × IsMessage failure text × (after ≡ append before text)

abbrev pub IsProgramTold : ProgramFailure → Option (List ℕ) → Option (List ℕ) → Type 0
IsProgramTold failure before after =
    (text : List ℕ) × IsProgramMessage failure text × (after ≡ append before text)

abbrev pub IsRefusalTold : List ℕ → Refusal → Option (List ℕ) → Option (List ℕ) → Type 0
IsRefusalTold name refusal before after =
    (text : List ℕ) × IsRefusedMessage name refusal text × (after ≡ append before text)

-- the program failed, and its last text, of that, went out
abbrev pub IsFailureTold : Option (List ℕ) → Option (List ℕ) → Type 0
IsFailureTold before after = (failure : ToolFailure) × (shown : Option (List ℕ))
    × WritesSome before shown × IsTold failure shown after
