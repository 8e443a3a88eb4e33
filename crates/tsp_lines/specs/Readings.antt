-- What a reader of lines holds and gives.
use Rattle.std.specs.Prelude.{◌≡◌, ℕ, ◌<◌, ◌≤◌, ◌+◌, List, [], ◌∷◌, ◌++◌, length, take, Bool, true, false, ◌==◌}
use Rattle.tsp_io.specs.declared.source.Got.TheVariants.{Got as Gave, Failed as NotGot}
use Rattle.tsp_io.specs.{Streams.Gives, declared.source.Got.Got, declared.source.Source.Ghosts as SourceOf}
use Rattle.tsp_lines.specs.{Faults.Counts, Lines.NoFeed, Lines.close, Lines.IsOver, declared.next.Fill.Fill, declared.next.Next.Next}
use Rattle.tsp_lines.specs.declared.next.Next.TheVariants.{Line, Last, Long, LongLast, End, Limit, Failed}
use Rattle.tsp_lines.specs.declared.next.Fill.TheVariants.{More, Over, NotRead}

-- a reader: the line last given, the first octets of the long line last given, the octets read and not used yet, how many were read in all, and the limit
pub record ReaderValue : Type 0 where
  pub line : List ℕ
  pub start : List ℕ
  pub held : List ℕ
  pub got : ℕ
  pub limit : ℕ

-- the octets that were used lie within the limit, and those that are held fill less than the buffer of 64 KiB
abbrev pub IsUsed : ReaderValue → Type 0
IsUsed r = (r.got ≤ r.limit + length r.held) × (length r.held < 65536)

-- what a reader gives, where these are the next octets of the input, held or read
abbrev pub IsNext : ReaderValue → List ℕ → Next → Type 0
IsNext r ahead Line = NoFeed r.line × (length r.line ≤ 1024) × (ahead ≡ close r.line ++ r.held) × IsUsed r
IsNext r ahead Last = NoFeed r.line × (0 < length r.line) × (length r.line ≤ 1024) × (ahead ≡ r.line) × (r.held ≡ []) × IsUsed r
IsNext r ahead Long = (line : List ℕ) × NoFeed line × (1024 < length line) × (ahead ≡ close line ++ r.held) × (r.start ≡ take 8 line) × IsUsed r
IsNext r ahead LongLast = NoFeed ahead × (1024 < length ahead) × (r.held ≡ []) × (r.start ≡ take 8 ahead) × IsUsed r
IsNext r ahead End = (ahead ≡ []) × (r.held ≡ []) × IsUsed r
IsNext r ahead Limit = (r.got ≡ r.limit + 1) × ((part : List ℕ) × (x : ℕ) × NoFeed part × (ahead ≡ part ++ x ∷ []))
IsNext r ahead Failed = NoFeed ahead × (r.got ≤ r.limit)

-- what a reader gives of a long line that goes on with these octets
abbrev pub IsPassed : ReaderValue → List ℕ → Next → Type 0
IsPassed r octets Line = ⊥
IsPassed r octets Last = ⊥
IsPassed r octets Long = (line : List ℕ) × NoFeed line × (octets ≡ close line ++ r.held) × IsUsed r
IsPassed r octets LongLast = (octets ≡ []) × (r.held ≡ []) × IsUsed r
IsPassed r octets End = ⊥
IsPassed r octets Limit = (r.got ≡ r.limit + 1) × ((part : List ℕ) × (x : ℕ) × NoFeed part × (octets ≡ part ++ x ∷ []))
IsPassed r octets Failed = (octets ≡ []) × (r.got ≤ r.limit)

-- what is given for a long line that goes on up to this
abbrev pub long_of : Next → Next
long_of Limit = Limit
long_of Line = Long
long_of Last = Long
long_of Long = Long
long_of LongLast = Long
long_of End = Long
long_of Failed = Long

-- the input's end was read
abbrev pub ends_input : Next → Bool
ends_input Last = true
ends_input LongLast = true
ends_input End = true
ends_input Line = false
ends_input Long = false
ends_input Limit = false
ends_input Failed = false

-- what comes of a call that reads up to the next line: source and reader, each before and after, and what it gives
pub record ReadsNext {S : Type 0} (sources : SourceOf S) (source source_now : S) (reader reader_now : ReaderValue) (given : Next) : Type 0 where
  pub next : (octets : List ℕ) × Gives (sources.left source) (sources.left source_now) octets × (reader_now.got ≡ reader.got + length octets) ×
      IsNext reader_now (reader.held ++ octets) given
  pub limit : (reader_now.limit ≡ reader.limit) × (reader_now.got ≤ reader_now.limit + 1)
  pub faults : Counts (sources.faults source) (sources.faults source_now) (given ≡ Failed)
  pub over : ends_input given ≡ true → IsOver (sources.left source_now)
  pub ended : sources.ended source_now ≡ ends_input given

-- a read gave octets, or none
abbrev pub IsFill : Fill → List ℕ → Type 0
IsFill More octets = 0 < length octets
IsFill Over octets = octets ≡ []
IsFill NotRead octets = octets ≡ []

-- the input is at its end
abbrev pub meets_end : Fill → Bool
meets_end More = false
meets_end Over = true
meets_end NotRead = false

-- how many octets a read gave
abbrev pub count_of : Got → ℕ
count_of (Gave count) = count
count_of NotGot = 0

-- the read gave the input's end
abbrev pub is_end : Got → Bool
is_end (Gave count) = count == 0
is_end NotGot = false
