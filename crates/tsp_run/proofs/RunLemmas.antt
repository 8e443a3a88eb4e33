-- What a step adds to a history: what its node and the others have then, and what was posted.
use Rattle.std.proofs.Common.{refl, sym, ap, ◌∙◌, append_assoc, append-nil, ◌≡◌, ℕ, ◌==◌, Bool, true, false, List, [], ◌∷◌, ◌++◌}
use Rattle.tsp_rules.specs.Values.{Boot, Placed, Port}
use Rattle.tsp_base.specs.Words.{first_port, joined, line_of, stepped, Step, Deed, Begins, Acts, Line, of, dids, up, up_after}
use Rattle.tsp_run.specs.Run.{posts, posts_from, posted_by}

one_own : (n : ℕ) (step : Step) (x : ℕ) (port : Port) (deed : Deed) (h : List Line) → (step.node == n) ≡ true → of n (line_of step x port deed ∷ h) ≡
    line_of step x port deed ∷ of n h
one_own n step x port deed h e = rw e refl

one_other : (n : ℕ) (step : Step) (x : ℕ) (port : Port) (deed : Deed) (h : List Line) → (step.node == n) ≡ false → of n (line_of step x port deed ∷ h) ≡ of n h
one_other n step x port deed h e = rw e refl

pub joined_own : (n : ℕ) (step : Step) (x : ℕ) (acts : List Placed) (h : List Line) → (step.node == n) ≡ true → of n (joined step x acts h) ≡
    joined step x acts (of n h)
joined_own n step x [] h e = refl
joined_own n step x (p ∷ rest) h e =
    joined_own n step x rest (line_of step x p.port (Acts p.act) ∷ h) e ∙ ap (λ l. joined step x rest l) (one_own n step x p.port (Acts p.act) h e)

pub joined_other : (n : ℕ) (step : Step) (x : ℕ) (acts : List Placed) (h : List Line) → (step.node == n) ≡ false → of n (joined step x acts h) ≡ of n h
joined_other n step x [] h e = refl
joined_other n step x (p ∷ rest) h e = joined_other n step x rest (line_of step x p.port (Acts p.act) ∷ h) e ∙ one_other n step x p.port (Acts p.act) h e

-- what the node of a step has after it
pub stepped_own : (n : ℕ) (step : Step) (x : ℕ) (acts : List Placed) (h : List Line) → (step.node == n) ≡ true → of n (stepped step x acts h) ≡
    joined step x acts (line_of step x first_port Begins ∷ of n h)
stepped_own n step x acts h e = joined_own n step x acts (line_of step x first_port Begins ∷ h) e ∙
    ap (λ l. joined step x acts l) (one_own n step x first_port Begins h e)

-- any other node's lines stay
pub stepped_other : (n : ℕ) (step : Step) (x : ℕ) (acts : List Placed) (h : List Line) → (step.node == n) ≡ false → of n (stepped step x acts h) ≡ of n h
stepped_other n step x acts h e = joined_other n step x acts (line_of step x first_port Begins ∷ h) e ∙ one_other n step x first_port Begins h e

posts_joined : (step : Step) (x : ℕ) (acts : List Placed) (h : List Line) → posts (joined step x acts h) ≡ posts h ++ posts_from step.at step.node acts
posts_joined step x [] h = sym (append-nil (posts h))
posts_joined step x (p ∷ rest) h =
    posts_joined step x rest (line_of step x p.port (Acts p.act) ∷ h) ∙ append_assoc (posts h) (posted_by step.at step.node p.port p.act)
    (posts_from step.at step.node rest)

-- a step's posts follow those before it
pub posts_stepped : (step : Step) (x : ℕ) (acts : List Placed) (h : List Line) → posts (stepped step x acts h) ≡ posts h ++ posts_from step.at step.node acts
posts_stepped step x acts h =
    posts_joined step x acts (line_of step x first_port Begins ∷ h) ∙ ap (λ ps. ps ++ posts_from step.at step.node acts) (append-nil (posts h))

up_after_true : (d : Deed) (b : Bool) → b ≡ true → up_after d b ≡ true
up_after_true (Acts Boot) b e = refl
up_after_true _ b e = e

-- a node that is up stays up
pub up_joined : (step : Step) (x : ℕ) (acts : List Placed) (lines : List Line) → up (dids lines) ≡ true → up (dids (joined step x acts lines)) ≡ true
up_joined step x [] lines e = e
up_joined step x (p ∷ rest) lines e = up_joined step x rest (line_of step x p.port (Acts p.act) ∷ lines) (up_after_true (Acts p.act) (up (dids lines)) e)
