-- Demand 3 in its own words. The board began empty and es is any run of events, so whatever is asked next stands for every event of a run.
use mathlib.Core.Path.{◌≡◌, refl, sym, ap, ◌∙◌}
use mathlib.Core.Bool.{Bool, true, false, not, ◌&&◌}
use mathlib.Core.List.{List, [], ◌∷◌, ◌++◌, foldl}
use Prim.Native.Nat.{ℕ, ◌≤◌}
use native.Mathlib.Omega.{arith}
use lib.Dec.{leb}
use lib.ListN.{length}
use borrow.Author.Tests.{le-leb}
use Rattle.std.specs.Prelude.{Result, Ok, Err}
use Rattle.text.specs.Names.{is_designator}
use Rattle.text.specs.Checks.{is_fine}
use Rattle.text.specs.Codes.{number_of}
use Rattle.text.proofs.Equal.{same_self}
use Rattle.text.specs.declared.Refusal.{Refusal}
use Rattle.text.specs.declared.Code.{Code}
use Rattle.text.specs.declared.Code.TheVariants.{BoardFull, BoardInvalid}
use Rattle.settings.specs.declared.Settings.{Settings}
use Rattle.command.specs.Text.{check_command}
use Rattle.command.proofs.Codes.{check-coded}
use Rattle.config.specs.Config.{apply_to}
use Rattle.board.specs.Board.{WaitingSlot, is_none, is_free, any, waiting, is_valid, past_refusals, placing, handing, Move, Stay, Put, Free, on_board, Reply, Given, Refused, reply_of}
use Rattle.board.specs.History.{Event, Add, Take, Entry, aircraft, heard, since, onto, joined, move, after, logged, is_empty_board, due, no_commands, called_for, act}
use Rattle.board.proofs.WaitingSlots.{never, none_is, some_for}
use Rattle.board.proofs.Valid.{waiting-fine, waiting-named}
use Rattle.board.proofs.Steps.{is-fine, right}
use Rattle.board.proofs.Joined.{joined-none, joined-acts, act-fine, acts-applied}
use Rattle.board.proofs.Run.{entry, since_snoc}
use Rattle.board.proofs.Demand.{in_step, demand3}

-- ---- One event more

-- the board after one event more
pub after_snoc : (b : List WaitingSlot) (es : List Event) (e : Event) → after b (es ++ (e ∷ [])) ≡ on_board (move (after b es) e) (after b es)
unfolding after
after_snoc b [] e = refl
after_snoc b (x ∷ es) e = after_snoc (on_board (move b x) b) es e

-- and its log
pub logged_snoc : (b : List WaitingSlot) (es : List Event) (e : Event) → logged b (es ++ (e ∷ [])) ≡ logged b es ++ (entry (after b es) e ∷ [])
unfolding logged after
logged_snoc b [] e = refl
logged_snoc b (x ∷ es) e = ap (λ (l : List Entry). entry b x ∷ l) (logged_snoc (on_board (move b x) b) es e)

-- ---- What a reply says of what was due

due-taken : (n none fits : Bool) (w x : List ℕ)
    → past_refusals Refused true n (Ok tt) (handing Refused (not none) fits (Given w)) ≡ Given x → (x ≡ w) × (none ≡ false)
due-taken true true fits w x e = (cc, cc)
due-taken true false true w x e = (cc, refl)
due-taken true false false w x e = (cc, refl)
due-taken false none fits w x e = (cc, cc)

due-nine : (n : Bool) (t : List ℕ) (s : Result (Unit {0}) Refusal) (none free : Bool) (w : List ℕ) (place : ℕ) → check_command t ≡ s
    → past_refusals Refused true n s (placing Refused (not none) free (Given w) (Given w)) ≡ Refused BoardFull place
    → (none ≡ true) × (free ≡ false)
due-nine true t (Err r) none free w place k e =
    let l = (check-coded t r k).1 in let z : r.code ≡ BoardFull = cc in absurd (omega (arith, l, ap number_of z))
due-nine true t (Ok u) true true w place k e = (refl, cc)
due-nine true t (Ok u) true false w place k e = (refl, refl)
due-nine true t (Ok u) false free w place k e = (cc, cc)
due-nine false t s none free w place k e = let z : ◌≡◌ {A = ℕ} 4 9 = cc in absurd (omega arith)

due-ten : (free : Bool) (w : List ℕ) (e : Event) (place : ℕ) → due free w e ≡ Refused BoardInvalid place → ⊥
due-ten free w (Add d t) place h = go (is_designator d) (check_command t) refl (not (is_none w)) free h
  where
    go : (n : Bool) (s : Result (Unit {0}) Refusal) → check_command t ≡ s → (waits free : Bool)
        → past_refusals Refused true n s (placing Refused waits free (Given (onto w t)) (Given (onto w t))) ≡ Refused BoardInvalid place → ⊥
    go true (Err r) k waits free e =
        let l = (check-coded t r k).1 in let z : r.code ≡ BoardInvalid = cc in omega (arith, l, ap number_of z)
    go true (Ok u) k true free e = let z : ◌≡◌ {A = ℕ} 0 1 = cc in omega arith
    go true (Ok u) k false true e = let z : ◌≡◌ {A = ℕ} 0 1 = cc in omega arith
    go true (Ok u) k false false e = let z : ◌≡◌ {A = ℕ} 9 10 = cc in omega arith
    go false s k waits free e = let z : ◌≡◌ {A = ℕ} 4 10 = cc in omega arith
due-ten free w (Take d room) place h = go (is_designator d) (not (is_none w)) (leb (length w) room) h
  where
    go : (n waits fits : Bool) → past_refusals Refused true n (Ok tt) (handing Refused waits fits (Given w)) ≡ Refused BoardInvalid place → ⊥
    go true true true e = let z : ◌≡◌ {A = ℕ} 0 1 = cc in omega arith
    go true true false e = let z : ◌≡◌ {A = ℕ} 2 10 = cc in omega arith
    go true false fits e = let z : ◌≡◌ {A = ℕ} 11 10 = cc in omega arith
    go false waits fits e = let z : ◌≡◌ {A = ℕ} 4 10 = cc in omega arith

-- where something waits or a slot is free, an accepted command is
due-given : (none free : Bool) (r : Reply) → (none && not free) ≡ false → placing Refused (not none) free r r ≡ r
due-given true true r e = refl
due-given true false r e = never refl e
due-given false free r e = refl

-- ---- Determined

-- two boards that began empty with as many slots reply alike to every run, whatever designators stood in them
pub alike : (b c : List WaitingSlot) (es : List Event) → is_empty_board b ≡ true → is_empty_board c ≡ true → length b ≡ length c
    → logged b es ≡ logged c es
alike b c es o q k =
    (demand3 b es o).replies ∙ ap (λ (n : ℕ). called_for n [] es) k ∙ sym (demand3 c es q).replies

-- ---- In the demand's words

module _ (b : List WaitingSlot) (es : List Event) (o : is_empty_board b ≡ true) where
  abbrev now : List WaitingSlot
  now = after b es

  abbrev log : List Entry
  log = logged b es

  -- every board of a run is valid
  pub stays_valid : is_valid (after b es) ≡ true
  stays_valid = (in_step b es o).valid

  -- every reply is what is due by what waits and whether a slot is free
  pub reply-due : (e : Event) → reply_of (move (after b es) e) ≡ due (any is_free (after b es)) (waiting (aircraft e) (after b es)) e
  reply-due e = (right now stays_valid e).reply

  -- so code 10 never comes
  pub never-ten : (e : Event) (place : ℕ) → reply_of (move (after b es) e) ≡ Refused BoardInvalid place → ⊥
  never-ten e place h = due-ten (any is_free now) (waiting (aircraft e) now) e place (sym (reply-due e) ∙ h)

  -- nothing waits where no command was accepted since the last hand-over
  pub none-waits : (d : List ℕ) → since d (logged b es) ≡ [] → waiting d (after b es) ≡ []
  unfolding joined
  none-waits d e = (in_step b es o).waits d ∙ ap joined e

  -- and there alone
  pub waits-none : (d : List ℕ) → waiting d (after b es) ≡ [] → since d (logged b es) ≡ []
  waits-none d e =
      go (since d log)
      (sym (joined-none (since d log) ((in_step b es o).fine d)) ∙ ap is_none (sym ((in_step b es o).waits d) ∙ e))
    where
      go : (cs : List (List ℕ)) → no_commands cs ≡ true → cs ≡ []
      go [] n = refl
      go (c ∷ cs) n = never n refl

  -- ---- Adding

  -- a command is refused with 9 only where nothing waits for its aircraft and no slot is free
  pub nine : (d t : List ℕ) (place : ℕ) → reply_of (move (after b es) (Add d t)) ≡ Refused BoardFull place
      → (since d (logged b es) ≡ []) × (any is_free (after b es) ≡ false)
  nine d t place h =
      let r =
      due-nine (is_designator d) t (check_command t) (is_none (waiting d now)) (any is_free now) (onto (waiting d now) t) place refl
      (sym (reply-due (Add d t)) ∙ h) in
      (waits-none d (none_is (waiting d now) r.0), r.1)

  -- an accepted command for a well-formed designator is refused nowhere else, and is then heard
  pub accepts : (d t : List ℕ) → is_designator d ≡ true → check_command t ≡ Ok tt
      → (is_none (waiting d (after b es)) && not (any is_free (after b es))) ≡ false
      → since d (logged b (es ++ (Add d t ∷ []))) ≡ since d (logged b es) ++ (t ∷ [])
  accepts d t n k h =
      let r : reply_of (move now (Add d t)) ≡ Given (onto (waiting d now) t) = reply-due (Add d t) ∙ rw (n, k) (due-given (is_none (waiting d now)) (any is_free now) (Given (onto (waiting d now) t)) h) in
      ap (since d) (logged_snoc b es (Add d t))
      ∙ since_snoc d log (entry now (Add d t)) []
      ∙ ap (heard d (since d log) (Add d t)) r
      ∙ rw (same_self d)

  -- ---- A refusal leaves no trace

  -- the board stays as it was
  pub refused_stays : (e : Event) (code : Code) (place : ℕ) → reply_of (move (after b es) e) ≡ Refused code place
      → after b (es ++ (e ∷ [])) ≡ after b es
  refused_stays e code place h = after_snoc b es e ∙ go (move now e) h
    where
      go : (m : Move) → reply_of m ≡ Refused code place → on_board m now ≡ now
      go (Stay c p) k = refl
      go (Put i d t) k = let z : ◌≡◌ {A = ℕ} 0 1 = cc in absurd (omega arith)
      go (Free i t) k = let z : ◌≡◌ {A = ℕ} 0 1 = cc in absurd (omega arith)

  -- and for no aircraft is anything heard
  pub refused-unheard : (e : Event) (code : Code) (place : ℕ) → reply_of (move (after b es) e) ≡ Refused code place
      → (d : List ℕ) → since d (logged b (es ++ (e ∷ []))) ≡ since d (logged b es)
  refused-unheard e code place h d =
      ap (since d) (logged_snoc b es e) ∙ since_snoc d log (entry now e) [] ∙ ap (heard d (since d log) e) h ∙ go e
    where
      go : (x : Event) → heard d (since d log) x (Refused code place) ≡ since d log
      go (Add x t) = refl
      go (Take x room) = refl

  -- ---- Taking

  module _ (d : List ℕ) (room : ℕ) where
    -- with room enough a taking hands over exactly what waits
    pub hands-over : is_none (waiting d (after b es)) ≡ false → length (waiting d (after b es)) ≤ room
        → reply_of (move (after b es) (Take d room)) ≡ Given (waiting d (after b es))
    hands-over s l =
        reply-due (Take d room)
        ∙ rw (waiting-named d now stays_valid (some_for d now s), s, le-leb (length (waiting d now)) room l)

    module _ (w : List ℕ) (h : reply_of (move (after b es) (Take d room)) ≡ Given w) where
      taken : (w ≡ waiting d now) × (is_none (waiting d now) ≡ false)
      taken =
          due-taken (is_designator d) (is_none (waiting d now)) (leb (length (waiting d now)) room) (waiting d now) w
          (sym (reply-due (Take d room)) ∙ h)

      -- what is handed over is all accepted commands since the last hand-over, joined in order
      pub handed-joined : w ≡ joined (since d (logged b es))
      handed-joined = taken.0 ∙ (in_step b es o).waits d

      -- it is an accepted command
      pub handed-fine : check_command w ≡ Ok tt
      handed-fine =
          ap check_command taken.0
          ∙ is-fine (check_command (waiting d now)) (waiting-fine d now stays_valid (some_for d now taken.1))

      -- it leaves every configuration as those commands would have, each applied as it was added
      pub handed-acts : (x : Settings) → apply_to x w ≡ foldl apply_to x (since d (logged b es))
      handed-acts x =
          sym (act-fine x w (ap is_fine handed-fine))
          ∙ ap (act x) handed-joined
          ∙ joined-acts (since d log) x ((in_step b es o).fine d)
          ∙ acts-applied (since d log) x ((in_step b es o).fine d)

      -- and nothing is left
      pub handed-whole : since d (logged b (es ++ (Take d room ∷ []))) ≡ []
      handed-whole =
          ap (since d) (logged_snoc b es (Take d room))
          ∙ since_snoc d log (entry now (Take d room)) []
          ∙ ap (heard d (since d log) (Take d room)) h
          ∙ rw (same_self d)
