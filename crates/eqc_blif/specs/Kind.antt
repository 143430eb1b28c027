-- What kind of statement a logical line is, by its first word (BLIF 1992; which commands are
-- skipped is this
-- project's choice).
use Rattle.std.specs.Prelude.{ℕ, not, List, [], ◌∷◌, slice_index, if◌then◌else◌, ◌==◌, codes}
use Rattle.std.specs.Str.{bytes_eq}
use Rattle.eqc_blif.specs.Words.{words, first_of}
use Rattle.eqc_netlist.specs.Names.{is_named}
use Rattle.eqc_blif.specs.declared.reader.kind.Kind.{Kind}
use Rattle.eqc_blif.specs.declared.reader.kind.Kind.TheVariants.{Model, Inputs, Outputs, Names}
use Rattle.eqc_blif.specs.declared.reader.kind.Kind.TheVariants.{Subckt, End, Latch, Skipped}
use Rattle.eqc_blif.specs.declared.reader.kind.Kind.TheVariants.{Unknown, Row}

-- the commands that are skipped, with their lines
abbrev pub skipped : List (List ℕ)
skipped =
    codes ".area" ∷ codes ".delay" ∷ codes ".wire" ∷ codes ".wire_load_slope"
    ∷ codes ".input_arrival"
    ∷ codes ".default_input_arrival" ∷ codes ".output_required" ∷ codes ".default_output_required"
    ∷ codes ".input_drive"
    ∷ codes ".default_input_drive" ∷ codes ".max_input_load" ∷ codes ".default_max_input_load"
    ∷ codes ".output_load"
    ∷ codes ".default_output_load" ∷ codes ".attr" ∷ codes ".cname" ∷ []

-- a first word that begins with `.` is a command; any other begins a row
abbrev pub kind_of : List ℕ → Kind
kind_of word =
    if not (slice_index word 0 == 46) then Row
    else (if bytes_eq word (codes ".names") then Names
    else (if bytes_eq word (codes ".subckt") then Subckt
    else (if bytes_eq word (codes ".model") then Model
    else (if bytes_eq word (codes ".inputs") then Inputs
    else (if bytes_eq word (codes ".outputs") then Outputs
    else (if bytes_eq word (codes ".end") then End
    else (if bytes_eq word (codes ".latch") then Latch
    else (if is_named skipped word then Skipped
    else Unknown))))))))

abbrev pub kind_of_line : List ℕ → Kind
kind_of_line line = kind_of (first_of (words line))
