-- A whole text of requests, a line each.
use Rattle.std.specs.Prelude.{ℕ, ◌+◌, ◌%◌, ◌^◌, if◌then◌else◌, List, [], ◌∷◌, ◌++◌, Ok, Err, codes, Result, ◌==◌}
use Rattle.std.specs.Fmt.{decimal}
use Rattle.values.specs.Direction.{direction_number}
use Rattle.values.specs.declared.io.Run.{Run}
use Rattle.seek.specs.declared.request.LineFault.{LineFault}
use Rattle.seek.specs.declared.text.BadLine.{BadLine}
use Rattle.seek.specs.Requests.{requested, fault_text}

-- a byte in front of the first line
abbrev pub in_front : ℕ → List (List ℕ) → List (List ℕ)
in_front b [] = (b ∷ []) ∷ []
in_front b (line ∷ lines) = (b ∷ line) ∷ lines

-- the lines of a text, without the newlines that end them
abbrev pub lines_of : List ℕ → List (List ℕ)
lines_of [] = []
lines_of (b ∷ bs) = if b == 10 then [] ∷ lines_of bs else in_front b (lines_of bs)

-- a request in plain numbers
pub record Request : Type 0 where
  pub session : ℕ
  pub first : ℕ
  pub count : ℕ
  pub direction : ℕ
  pub address : ℕ
  pub length : ℕ

-- what line number n says: a request, which is one I/O to read under the number's low 32 bits, or a fault
abbrev pub request_in : ℕ → Result (ℕ × ℕ) LineFault → List Request
request_in n (Ok x) = record { session = 0; first = n % 2 ^ 32; count = 1; direction = 0; address = x.0; length = x.1 } ∷ []
request_in n (Err f) = []

abbrev pub fault_in : ℕ → Result (ℕ × ℕ) LineFault → List (ℕ × LineFault)
fault_in n (Ok x) = []
fault_in n (Err f) = (n, f) ∷ []

-- what is printed of a bad line, numbered from 1
abbrev pub bad_text : BadLine → List ℕ
bad_text bad = codes "line " ++ decimal (bad.line + 1) ++ codes ": " ++ fault_text bad.fault

-- all requests and all faults of lines that are numbered from n on
abbrev pub requests_from : ℕ → List (List ℕ) → List Request
requests_from n [] = []
requests_from n (line ∷ lines) = request_in n (requested line) ++ requests_from (n + 1) lines

abbrev pub faults_from : ℕ → List (List ℕ) → List (ℕ × LineFault)
faults_from n [] = []
faults_from n (line ∷ lines) = fault_in n (requested line) ++ faults_from (n + 1) lines

-- what a run and a bad line stand for
abbrev pub run_says : Run → Request
run_says run = record { session = run.session; first = run.first; count = run.count; direction = direction_number run.direction; address = run.extent.address; length = run.extent.length }

abbrev pub bad_says : BadLine → ℕ × LineFault
bad_says bad = (bad.line, bad.fault)
