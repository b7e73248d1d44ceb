-- 02 [5]: turns one after another. "Let each turn get states, lengths and buffers as the one before left them."
-- Assumes nothing.
use Rattle.std.specs.Prelude.{ℕ, ◌+◌, Bool, true, false, cond, ◌||◌, List, [], ◌∷◌, Some, None, Ok, Err}
use Rattle.seats.specs.Room.{Room}
use Rattle.seats.specs.Turn.{TurnCall, turn_call, TurnAnswer, TurnOutcome, turn_of, ran_seat}

-- ---- any list of turns, refused ones among them

unfoldable pub room_after : List TurnCall → Room → Room
room_after [] w = w
room_after (c ∷ cs) w = room_after cs (turn_of c w).room

-- a number of each turn, added up over the turns in which seat i ran
unfoldable pub sum_at : (TurnCall → TurnAnswer → ℕ) → ℕ → List TurnCall → Room → ℕ
sum_at f i [] w = 0
sum_at f i (c ∷ cs) w =
    let o = turn_of c w in
    cond (ran_seat i o.answer) (f c o.answer) 0 + sum_at f i cs o.room

-- "its slices' sum"
abbrev pub slice_in : TurnCall → TurnAnswer → ℕ
slice_in c a = c.slice

abbrev pub slices_at : ℕ → List TurnCall → Room → ℕ
slices_at i cs w = sum_at slice_in i cs w

-- the steps and the cycles that its turns told
abbrev pub steps_in : TurnCall → TurnAnswer → ℕ
steps_in c (Err r) = 0
steps_in c (Ok None) = 0
steps_in c (Ok (Some t)) = t.steps

abbrev pub steps_at : ℕ → List TurnCall → Room → ℕ
steps_at i cs w = sum_at steps_in i cs w

abbrev pub cycles_in : TurnCall → TurnAnswer → ℕ
cycles_in c (Err r) = 0
cycles_in c (Ok None) = 0
cycles_in c (Ok (Some t)) = t.cycles

abbrev pub cycles_at : ℕ → List TurnCall → Room → ℕ
cycles_at i cs w = sum_at cycles_in i cs w

-- ---- turns of n seats, one for each slice, "when each turn is given the seat that the one before gave"

abbrev pub given_by : TurnAnswer → ℕ → ℕ
given_by (Err r) from = from
given_by (Ok None) from = from
given_by (Ok (Some t)) from = t.next

unfoldable pub round_of : (seats : ℕ) → (slices : List ℕ) → (from : ℕ) → Room → List TurnOutcome
round_of n [] from w = []
round_of n (k ∷ ks) from w =
    let o = turn_of (turn_call n k from) w in
    o ∷ round_of n ks (given_by o.answer from) o.room

abbrev pub is_refused : TurnAnswer → Bool
is_refused (Err r) = true
is_refused (Ok x) = false

abbrev pub any_refused : List TurnOutcome → Bool
any_refused [] = false
any_refused (o ∷ os) = is_refused o.answer || any_refused os

abbrev pub ever_ran : ℕ → List TurnOutcome → Bool
ever_ran i [] = false
ever_ran i (o ∷ os) = ran_seat i o.answer || ever_ran i os
