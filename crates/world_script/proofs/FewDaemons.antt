-- The number of daemons that a line says is 1 to 16.
use Rattle.std.proofs.Common.{◌≡◌, ℕ, ◌&&◌, List, [], ◌∷◌, Bool, true, false, if◌then◌else◌, Option, Some, None, refl, subst, arith, codes}
use Rattle.std.specs.Prelude.{nat_le}
use Rattle.std.specs.Option.{option_and_then}
use Rattle.std.specs.Str.{bytes_eq}
use Rattle.std.proofs.lemmas.Bool.Decides.{nat_tests}
use Rattle.script_text.specs.Words.{words_of}
use Rattle.map_core.specs.declared.command.MapCommand.{MapCommand}
use Rattle.world_events.specs.declared.event.AuthCommand.{AuthCommand}
use Rattle.world_script.specs.declared.command.Command.{Command}
use Rattle.world_script.specs.declared.command.Command.TheVariants.{Osds}
use Rattle.world_script.specs.Command.{Word, Reads, and_then, a_word, a_number, an_id, a_group, an_end, ops, pool, up, down, restart, locate, osd_named, change, add_user, set_caps, get_or_create, delete_user, auth_named, change_users, open_session, renew_session, submit, list_names, a_message, daemons, command_named, command, whole, command_of, read_line}
use Rattle.world_script.specs.Steps.{HasFewDaemons}

abbrev Few : Option (Command × List Word) → Type 0
Few None = Unit {0}
Few (Some found) = HasFewDaemons found.0

few_then : {A : Type 0} (first : Option (A × List Word)) (next : A → Reads Command) → ((x : A) (ws : List Word) → Few (next x ws)) → Few (and_then first next)
few_then None next h = tt
few_then (Some first) next h = h first.0 first.1

few_if : (test : Bool) (x y : Option (Command × List Word)) → Few x → Few y → Few (if test then x else y)
few_if true x y this other = this
few_if false x y this other = other

-- ---- the number of daemons

in_range : (count : ℕ) (ws : List Word) → Few (if nat_le 1 count && nat_le count 16 then Some (Osds count, ws) else None)
in_range count ws = go (nat_le 1 count) refl (nat_le count 16) refl
  where
    go : (some : Bool) → nat_le 1 count ≡ some → (few : Bool) → nat_le count 16 ≡ few → Few (if some && few then Some (Osds count, ws) else None)
    go true is true so = (grind (arith, nat_tests), grind (arith, nat_tests))
    go true is false so = tt
    go false is few so = tt

few_daemons : (ws : List Word) → Few (daemons ws)
few_daemons ws = few_then (a_number ws) _ in_range

-- ---- every other command

few_change : (found : Option (MapCommand × List Word)) → Few (change found)
few_change found = few_then found _ (λ command ws. tt)

few_locate : (ws : List Word) → Few (locate ws)
few_locate ws = few_then (a_word ws) _ (λ pool ws. few_then (a_word ws) _ (λ namespace ws. few_then (a_word ws) _ (λ object ws. tt)))

few_osd : (w : Word) (ws : List Word) → Few (osd_named w ws)
few_osd w ws =
    few_if (bytes_eq w (codes "pool")) _ _ (few_change (pool ws))
    (few_if (bytes_eq w (codes "up")) _ _ (few_change (up ws))
    (few_if (bytes_eq w (codes "down")) _ _ (few_change (down ws))
    (few_if (bytes_eq w (codes "restart")) _ _ (few_change (restart ws))
    (few_if (bytes_eq w (codes "map")) _ _ (few_locate ws) tt))))

few_users : (found : Option (AuthCommand × List Word)) → Few (change_users found)
few_users found = few_then found _ (λ command ws. tt)

few_auth : (w : Word) (ws : List Word) → Few (auth_named w ws)
few_auth w ws =
    few_if (bytes_eq w (codes "add")) _ _ (few_users (add_user ws))
    (few_if (bytes_eq w (codes "caps")) _ _ (few_users (set_caps ws))
    (few_if (bytes_eq w (codes "get-or-create")) _ _ (few_users (get_or_create ws))
    (few_if (bytes_eq w (codes "del")) _ _ (few_users (delete_user ws))
    (few_if (bytes_eq w (codes "get")) _ _ (few_then (a_word ws) _ (λ name ws. tt))
    (few_if (bytes_eq w (codes "ls")) _ _ tt tt)))))

few_open : (ws : List Word) → Few (open_session ws)
few_open ws = few_then (a_word ws) _ (λ entity ws. few_then (an_end ws) _ (λ until ws. tt))

few_renew : (ws : List Word) → Few (renew_session ws)
few_renew ws = few_then (a_number ws) _ (λ session ws. few_then (an_end ws) _ (λ until ws. tt))

few_submit : (ws : List Word) → Few (submit ws)
few_submit ws =
    few_then (a_number ws) _ (λ session ws. few_then (a_word ws) _ (λ pool ws. few_then (a_word ws) _ (λ namespace ws. few_then (a_word ws) _ (λ object ws. few_then (ops ws) _ (λ os ws. tt)))))

few_names : (ws : List Word) → Few (list_names ws)
few_names ws = few_then (a_number ws) _ (λ session ws. few_then (a_word ws) _ (λ pool ws. few_then (a_word ws) _ (λ namespace ws. tt)))

few_named : (w : Word) (ws : List Word) → Few (command_named w ws)
few_named w ws =
    few_if (bytes_eq w (codes "osds")) _ _ (few_daemons ws)
    (few_if (bytes_eq w (codes "osd")) _ _ (few_then (a_word ws) osd_named few_osd)
    (few_if (bytes_eq w (codes "auth")) _ _ (few_then (a_word ws) auth_named few_auth)
    (few_if (bytes_eq w (codes "open")) _ _ (few_open ws)
    (few_if (bytes_eq w (codes "renew")) _ _ (few_renew ws)
    (few_if (bytes_eq w (codes "close")) _ _ (few_then (a_number ws) _ (λ session ws. tt))
    (few_if (bytes_eq w (codes "tick")) _ _ (few_then (a_number ws) _ (λ tick ws. tt))
    (few_if (bytes_eq w (codes "do")) _ _ (few_submit ws)
    (few_if (bytes_eq w (codes "ls")) _ _ (few_names ws)
    (few_if (bytes_eq w (codes "deliver")) _ _ (few_then (a_message ws) _ (λ message ws. tt))
    (few_if (bytes_eq w (codes "lose")) _ _ (few_then (a_message ws) _ (λ message ws. tt))
    (few_if (bytes_eq w (codes "repeat")) _ _ (few_then (a_message ws) _ (λ message ws. tt))
    (few_if (bytes_eq w (codes "settle")) _ _ tt
    (few_if (bytes_eq w (codes "kick")) _ _ tt
    (few_if (bytes_eq w (codes "lose-all")) _ _ tt
    (few_if (bytes_eq w (codes "answer")) _ _ (few_then (an_id ws) _ (λ id ws. tt))
    (few_if (bytes_eq w (codes "listing")) _ _ (few_then (an_id ws) _ (λ id ws. tt))
    (few_if (bytes_eq w (codes "ready")) _ _ (few_then (a_group ws) _ (λ group ws. tt)) tt)))))))))))))))))

-- ---- the line

few_whole : (found : Option (Command × List Word)) (c : Command) → Few found → whole found ≡ Some c → HasFewDaemons c
few_whole None c few is = absurd (cc)
few_whole (Some (x, [])) c few is = let same : x ≡ c = cc in subst HasFewDaemons same few
few_whole (Some (x, w ∷ ws)) c few is = absurd (cc)

pub few_read : (line : List ℕ) (c : Command) → read_line line ≡ Some c → HasFewDaemons c
few_read line c is = go (words_of line) is
  where
    go : (words : Option (List Word)) → option_and_then command_of words ≡ Some c → HasFewDaemons c
    go None is = absurd (cc)
    go (Some ws) is = few_whole (command ws) c (few_then (a_word ws) command_named few_named) is
