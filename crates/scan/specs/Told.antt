-- For callers: what a scan tells, by its answer, and which slots can be scanned.
use Rattle.std.specs.Prelude.{◌≡◌, refl, Bool, true, List, [], ◌∷◌, ℕ, length}
use Rattle.std.proofs.Common.{subst, arith, eq-eqb}
use Rattle.algebra.specs.Words.{every}
use Rattle.definitions.specs.declared.Point.{Point}
use Rattle.definitions.specs.Tables.{is_live, slots_of, slot_sound}
use Rattle.definitions.specs.Meaning.{Live}
use Rattle.meaning.specs.Found.{Found}
use Rattle.std.specs.Prelude.{Some}
use Rattle.meaning.specs.Best.{scan}
use Rattle.meaning.specs.Locate.{first_on}
use Rattle.tables.specs.Rows.{OnMap}
use Rattle.tables.specs.Sound.{on_map, sound_at}
use Rattle.scan.specs.Asked.{OnWay, one, NoneOn, BestOn, SearchIs}
use Rattle.scan.specs.declared.Scan.{Scan}
use Rattle.scan.specs.declared.Scan.TheVariants as Scanned

-- ---- What a scan tells

pub search_best : {lines : List ℕ} {d : Bool} {p : Point} {c e : Found} {r : Scan} → SearchIs lines d p r → r ≡ Scanned.Best c → c ≡ e → BestOn lines d p e
search_best {lines} {d} {p} h e f = subst (λ (x : Found). BestOn lines d p x) f (subst (λ (x : Scan). SearchIs lines d p x) e h)

-- a list of no slots
pub none_there : {lines slots : List ℕ} {d : Bool} {p : Point} {c : Found} → length slots ≡ 0 → OnWay lines d p c → NoneOn lines d p c slots c
unfolding first_on scan
none_there {slots = []} e u = record { none_on = refl; best = refl; on_way = u }
none_there {slots = s ∷ more} e u = absurd (omega arith)

-- ---- Slots on the map

pub way_map : {lines : List ℕ} {d : Bool} {p : Point} {s : ℕ} → OnWay lines d p (Some s) → OnMap lines s
way_map (one m b) = m

pub live_on_map : (lines : List ℕ) (s : ℕ) → every (slot_sound lines) (slots_of lines) ≡ true → Live lines s → OnMap lines s
unfolding is_live
live_on_map lines s e v = let h = v.there in on_map lines s (omega arith) (sound_at lines e h) (eq-eqb _ _ v.lives)
