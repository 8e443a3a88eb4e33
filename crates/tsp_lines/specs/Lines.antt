-- Lines of octets, and an input that is known or not. Only the octets within the limit count.
use Rattle.std.specs.Prelude.{◌≡◌, ℕ, ◌<◌, ◌≤◌, ◌+◌, ◌-◌, ◌⊎◌, List, [], ◌∷◌, ◌++◌, length, take, drop, Contains, flat_map, IfSome}
use Rattle.std.specs.declared.option.Option.{Option}

-- no octet is a line feed
abbrev pub NoFeed : List ℕ → Type 0
NoFeed octets = ¬ Contains octets 10

-- a line with its line feed
abbrev pub close : List ℕ → List ℕ
close line = line ++ 10 ∷ []

-- octets begin with this line and its line feed, which are so many octets
abbrev pub IsFront : List ℕ → ℕ → List ℕ → Type 0
IsFront octets count line = NoFeed line × (count ≡ length line + 1) × (octets ≡ close line ++ drop count octets)

-- the first line of octets, which has so many with its line feed
abbrev pub line_ahead : List ℕ → ℕ → List ℕ
line_ahead octets count = take (count - 1) octets

-- the first line of octets has so many with its line feed
abbrev pub IsAhead : List ℕ → ℕ → Type 0
IsAhead octets count = IsFront octets count (line_ahead octets count)

-- lines, each with its line feed
abbrev pub closed : List (List ℕ) → List ℕ
closed lines = flat_map close lines

-- these octets lie within the limit, and the input begins with them, if it is known
abbrev pub Begins : ℕ → Option (List ℕ) → List ℕ → Type 0
Begins limit input octets = (length octets ≤ limit) × IfSome input (λ xs. (rest : List ℕ) × (xs ≡ octets ++ rest))

-- these octets lie within the limit, and they are the input, if it is known
abbrev pub IsInput : ℕ → Option (List ℕ) → List ℕ → Type 0
IsInput limit input octets = (length octets ≤ limit) × IfSome input (λ xs. xs ≡ octets)

-- nothing is left of the input, if it is known
abbrev pub IsOver : Option (List ℕ) → Type 0
IsOver input = IfSome input (λ xs. xs ≡ [])

-- these octets are these lines, of which the last may lack its line feed
abbrev pub AreLines : List ℕ → List (List ℕ) → Type 0
AreLines octets lines = (octets ≡ closed lines) ⊎ ((front : List (List ℕ)) × (last : List ℕ) × (lines ≡ front ++ last ∷ []) × (0 < length last) ×
    (octets ≡ closed front ++ last))

-- the input is these lines and no more
abbrev pub IsWhole : ℕ → Option (List ℕ) → List (List ℕ) → Type 0
IsWhole limit input lines = (octets : List ℕ) × AreLines octets lines × IsInput limit input octets

-- the input begins with these lines, each with its line feed, or is these lines and no more
abbrev pub HasLines : ℕ → Option (List ℕ) → List (List ℕ) → Type 0
HasLines limit input lines = Begins limit input (closed lines) ⊎ IsWhole limit input lines

-- the input begins with these lines and then has this one, ended by a line feed or by the input's end
abbrev pub HasNext : ℕ → Option (List ℕ) → List (List ℕ) → List ℕ → Type 0
HasNext limit input lines line = NoFeed line × (Begins limit input (closed lines ++ close line) ⊎
    ((0 < length line) × IsInput limit input (closed lines ++ line)))

-- the input begins with these lines, and another octet follows them
abbrev pub HasMore : ℕ → Option (List ℕ) → List (List ℕ) → Type 0
HasMore limit input lines = (x : ℕ) × Begins (limit + 1) input (closed lines ++ x ∷ [])

-- the first octet past the limit is in the line after these lines
abbrev pub IsPast : ℕ → Option (List ℕ) → List (List ℕ) → Type 0
IsPast limit input lines = (part : List ℕ) × (x : ℕ) × NoFeed part × (length (closed lines ++ part) ≡ limit) ×
    Begins (limit + 1) input (closed lines ++ (part ++ x ∷ []))
