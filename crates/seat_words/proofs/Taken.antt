-- What clap makes of the words of seatdesk: the command line is one that its definitions cover.
use Rattle.std.proofs.Common.{◌≡◌, refl, sym, subst, true, false, Bool, ◌||◌, List, [], codes}
use Rattle.std.proofs.lemmas.Slice.Eq.{bytes_eq-Decides}
use Rattle.clap.specs.Words.{Row, Shape, Text, fault_of, is_simple, is_simple_and_free, subcommand_of}
use Rattle.clap.specs.Walk.{answers_to, rows_after}
use Rattle.clap.specs.Simple.{argument_words, built, built_leaf}
use Rattle.clap.proofs.OnLiterals.{clap_on_literals}
use Rattle.seat_words.specs.CommandLine.{asking_app, audit_app, avs_app, bare_app, bookings_app, carry_app, changes_app, check_app, compare_app, cover_app, explain_app, flights_app, history_app, horizon_app, ladder_app, loads_app, named_app, pickup_app, reconcile_app, recover_app, replies_app, rooms_app, route_app, run_app, seal_app, season_app, seatdesk_app, selling_app, serve_app, told_app, waiting_app, why_app, with_switches}
use Rattle.seat_words.specs.Jobs.{Line, is_answerable, is_complete}
use Rattle.seat_words.proofs.Found.{Each, Yields, is_no_help, line_in}
use Rattle.seat_words.proofs.Values.{Keeps, append_keeps, flag_keeps, has_required, help_keeps, leaf_values, set_keeps}

pub seatdesk_is_simple : is_simple seatdesk_app ≡ true
unfolding seatdesk_app asking_app selling_app bare_app named_app ladder_app check_app flights_app cover_app rooms_app loads_app run_app serve_app route_app bookings_app audit_app seal_app recover_app replies_app told_app waiting_app pickup_app history_app avs_app reconcile_app compare_app carry_app changes_app why_app explain_app season_app horizon_app clap_on_literals
seatdesk_is_simple = refl

pub seatdesk_is_free : is_simple_and_free seatdesk_app ≡ true
unfolding seatdesk_app asking_app selling_app bare_app named_app ladder_app check_app flights_app cover_app rooms_app loads_app run_app serve_app route_app bookings_app audit_app seal_app recover_app replies_app told_app waiting_app pickup_app history_app avs_app reconcile_app compare_app carry_app changes_app why_app explain_app season_app horizon_app clap_on_literals
seatdesk_is_free = refl

-- ---- words without a fault give a line of one of the commands

-- the words of a leaf give what holds of all rows with its required values
leaf_line : (P : Line → Bool) (s : Shape) → Each Keeps s.rules
    → ((rows : List Row) → has_required s.rules rows ≡ true → P (s.name, rows) ≡ true)
    → Yields P s
leaf_line P s each given = record { rows = λ words e. given (rows_after s.rules [] words) (leaf_values s each words e) }

ladder_line : Yields is_complete (built_leaf (with_switches ladder_app).top)
unfolding ladder_app
ladder_line = leaf_line is_complete (built_leaf (with_switches ladder_app).top) (flag_keeps _ refl _ refl, (flag_keeps _ refl _ refl, (help_keeps _ refl, tt))) (λ rows h. refl)

check_line : Yields is_complete (built_leaf (with_switches check_app).top)
unfolding check_app
check_line = leaf_line is_complete (built_leaf (with_switches check_app).top) (set_keeps _ refl refl, (flag_keeps _ refl _ refl, (flag_keeps _ refl _ refl, (help_keeps _ refl, tt)))) (λ rows h. h)

flights_line : Yields is_complete (built_leaf (with_switches flights_app).top)
unfolding flights_app
flights_line = leaf_line is_complete (built_leaf (with_switches flights_app).top)
    (set_keeps _ refl refl, (set_keeps _ refl refl, (flag_keeps _ refl _ refl, (flag_keeps _ refl _ refl, (set_keeps _ refl refl, (flag_keeps _ refl _ refl, (flag_keeps _ refl _ refl, (help_keeps _ refl, tt)))))))) (λ rows h. h)

cover_line : Yields is_complete (built_leaf (with_switches cover_app).top)
unfolding cover_app horizon_app
cover_line = leaf_line is_complete (built_leaf (with_switches cover_app).top)
    (set_keeps _ refl refl, (set_keeps _ refl refl, (set_keeps _ refl refl, (set_keeps _ refl refl, (set_keeps _ refl refl, (flag_keeps _ refl _ refl, (flag_keeps _ refl _ refl, (flag_keeps _ refl _ refl, (flag_keeps _ refl _ refl, (help_keeps _ refl, tt)))))))))) (λ rows h. h)

rooms_line : Yields is_complete (built_leaf (with_switches rooms_app).top)
unfolding rooms_app horizon_app
rooms_line = leaf_line is_complete (built_leaf (with_switches rooms_app).top)
    (set_keeps _ refl refl, (set_keeps _ refl refl, (set_keeps _ refl refl, (set_keeps _ refl refl, (set_keeps _ refl refl, (set_keeps _ refl refl, (set_keeps _ refl refl, (flag_keeps _ refl _ refl, (flag_keeps _ refl _ refl, (flag_keeps _ refl _ refl, (flag_keeps _ refl _ refl, (set_keeps _ refl refl, (flag_keeps _ refl _ refl, (flag_keeps _ refl _ refl, (help_keeps _ refl, tt))))))))))))))) (λ rows h. h)

loads_line : Yields is_complete (built_leaf (with_switches loads_app).top)
unfolding loads_app horizon_app
loads_line = leaf_line is_complete (built_leaf (with_switches loads_app).top)
    (set_keeps _ refl refl, (set_keeps _ refl refl, (set_keeps _ refl refl, (set_keeps _ refl refl, (set_keeps _ refl refl, (set_keeps _ refl refl, (set_keeps _ refl refl, (set_keeps _ refl refl, (set_keeps _ refl refl, (flag_keeps _ refl _ refl, (flag_keeps _ refl _ refl, (flag_keeps _ refl _ refl, (flag_keeps _ refl _ refl, (flag_keeps _ refl _ refl, (flag_keeps _ refl _ refl, (set_keeps _ refl refl, (append_keeps _ refl refl, (flag_keeps _ refl _ refl, (flag_keeps _ refl _ refl, (help_keeps _ refl, tt)))))))))))))))))))) (λ rows h. h)

run_line : Yields is_complete (built_leaf (with_switches run_app).top)
unfolding run_app horizon_app
run_line = leaf_line is_complete (built_leaf (with_switches run_app).top)
    (set_keeps _ refl refl, (set_keeps _ refl refl, (set_keeps _ refl refl, (set_keeps _ refl refl, (set_keeps _ refl refl, (set_keeps _ refl refl, (set_keeps _ refl refl, (set_keeps _ refl refl, (set_keeps _ refl refl, (set_keeps _ refl refl, (set_keeps _ refl refl, (set_keeps _ refl refl, (flag_keeps _ refl _ refl, (flag_keeps _ refl _ refl, (append_keeps _ refl refl, (flag_keeps _ refl _ refl, (flag_keeps _ refl _ refl, (help_keeps _ refl, tt)))))))))))))))))) (λ rows h. h)

serve_line : Yields is_complete (built_leaf (with_switches serve_app).top)
unfolding serve_app horizon_app
serve_line = leaf_line is_complete (built_leaf (with_switches serve_app).top)
    (set_keeps _ refl refl, (set_keeps _ refl refl, (set_keeps _ refl refl, (set_keeps _ refl refl, (set_keeps _ refl refl, (set_keeps _ refl refl, (set_keeps _ refl refl, (append_keeps _ refl refl, (set_keeps _ refl refl, (set_keeps _ refl refl, (set_keeps _ refl refl, (set_keeps _ refl refl, (set_keeps _ refl refl, (flag_keeps _ refl _ refl, (flag_keeps _ refl _ refl, (flag_keeps _ refl _ refl, (help_keeps _ refl, tt))))))))))))))))) (λ rows h. h)

route_line : Yields is_complete (built_leaf (with_switches route_app).top)
unfolding route_app
route_line = leaf_line is_complete (built_leaf (with_switches route_app).top)
    (set_keeps _ refl refl, (set_keeps _ refl refl, (append_keeps _ refl refl, (flag_keeps _ refl _ refl, (flag_keeps _ refl _ refl, (help_keeps _ refl, tt)))))) (λ rows h. h)

bookings_line : Yields is_complete (built_leaf (with_switches bookings_app).top)
unfolding bookings_app horizon_app
bookings_line = leaf_line is_complete (built_leaf (with_switches bookings_app).top)
    (set_keeps _ refl refl, (set_keeps _ refl refl, (set_keeps _ refl refl, (set_keeps _ refl refl, (set_keeps _ refl refl, (append_keeps _ refl refl, (set_keeps _ refl refl, (set_keeps _ refl refl, (flag_keeps _ refl _ refl, (flag_keeps _ refl _ refl, (flag_keeps _ refl _ refl, (set_keeps _ refl refl, (flag_keeps _ refl _ refl, (flag_keeps _ refl _ refl, (help_keeps _ refl, tt))))))))))))))) (λ rows h. h)

waiting_line : Yields is_complete (built_leaf (with_switches waiting_app).top)
unfolding waiting_app horizon_app
waiting_line = leaf_line is_complete (built_leaf (with_switches waiting_app).top)
    (set_keeps _ refl refl, (set_keeps _ refl refl, (set_keeps _ refl refl, (set_keeps _ refl refl, (set_keeps _ refl refl, (set_keeps _ refl refl, (set_keeps _ refl refl, (flag_keeps _ refl _ refl, (flag_keeps _ refl _ refl, (flag_keeps _ refl _ refl, (flag_keeps _ refl _ refl, (set_keeps _ refl refl, (append_keeps _ refl refl, (flag_keeps _ refl _ refl, (flag_keeps _ refl _ refl, (help_keeps _ refl, tt)))))))))))))))) (λ rows h. h)

pickup_line : Yields is_complete (built_leaf (with_switches pickup_app).top)
unfolding pickup_app horizon_app
pickup_line = leaf_line is_complete (built_leaf (with_switches pickup_app).top)
    (set_keeps _ refl refl, (set_keeps _ refl refl, (set_keeps _ refl refl, (set_keeps _ refl refl, (set_keeps _ refl refl, (set_keeps _ refl refl, (set_keeps _ refl refl, (set_keeps _ refl refl, (set_keeps _ refl refl, (flag_keeps _ refl _ refl, (flag_keeps _ refl _ refl, (flag_keeps _ refl _ refl, (set_keeps _ refl refl, (flag_keeps _ refl _ refl, (flag_keeps _ refl _ refl, (help_keeps _ refl, tt)))))))))))))))) (λ rows h. h)

history_line : Yields is_complete (built_leaf (with_switches history_app).top)
unfolding history_app horizon_app
history_line = leaf_line is_complete (built_leaf (with_switches history_app).top)
    (set_keeps _ refl refl, (set_keeps _ refl refl, (set_keeps _ refl refl, (set_keeps _ refl refl, (set_keeps _ refl refl, (set_keeps _ refl refl, (set_keeps _ refl refl, (set_keeps _ refl refl, (flag_keeps _ refl _ refl, (flag_keeps _ refl _ refl, (flag_keeps _ refl _ refl, (set_keeps _ refl refl, (flag_keeps _ refl _ refl, (flag_keeps _ refl _ refl, (help_keeps _ refl, tt))))))))))))))) (λ rows h. h)

avs_line : Yields is_complete (built_leaf (with_switches avs_app).top)
unfolding avs_app horizon_app
avs_line = leaf_line is_complete (built_leaf (with_switches avs_app).top)
    (set_keeps _ refl refl, (set_keeps _ refl refl, (set_keeps _ refl refl, (set_keeps _ refl refl, (set_keeps _ refl refl, (set_keeps _ refl refl, (flag_keeps _ refl _ refl, (set_keeps _ refl refl, (set_keeps _ refl refl, (set_keeps _ refl refl, (flag_keeps _ refl _ refl, (set_keeps _ refl refl, (flag_keeps _ refl _ refl, (flag_keeps _ refl _ refl, (help_keeps _ refl, tt))))))))))))))) (λ rows h. h)

reconcile_line : Yields is_complete (built_leaf (with_switches reconcile_app).top)
unfolding reconcile_app horizon_app
reconcile_line = leaf_line is_complete (built_leaf (with_switches reconcile_app).top)
    (set_keeps _ refl refl, (set_keeps _ refl refl, (set_keeps _ refl refl, (set_keeps _ refl refl, (set_keeps _ refl refl, (set_keeps _ refl refl, (flag_keeps _ refl _ refl, (flag_keeps _ refl _ refl, (set_keeps _ refl refl, (set_keeps _ refl refl, (flag_keeps _ refl _ refl, (flag_keeps _ refl _ refl, (help_keeps _ refl, tt))))))))))))) (λ rows h. h)

compare_line : Yields is_complete (built_leaf (with_switches compare_app).top)
unfolding compare_app
compare_line = leaf_line is_complete (built_leaf (with_switches compare_app).top)
    (set_keeps _ refl refl, (set_keeps _ refl refl, (set_keeps _ refl refl, (flag_keeps _ refl _ refl, (flag_keeps _ refl _ refl, (help_keeps _ refl, tt)))))) (λ rows h. h)

carry_line : Yields is_complete (built_leaf (with_switches carry_app).top)
unfolding carry_app
carry_line = leaf_line is_complete (built_leaf (with_switches carry_app).top)
    (set_keeps _ refl refl, (set_keeps _ refl refl, (set_keeps _ refl refl, (set_keeps _ refl refl, (set_keeps _ refl refl, (set_keeps _ refl refl, (flag_keeps _ refl _ refl, (flag_keeps _ refl _ refl, (flag_keeps _ refl _ refl, (set_keeps _ refl refl, (flag_keeps _ refl _ refl, (flag_keeps _ refl _ refl, (flag_keeps _ refl _ refl, (set_keeps _ refl refl, (append_keeps _ refl refl, (flag_keeps _ refl _ refl, (flag_keeps _ refl _ refl, (help_keeps _ refl, tt)))))))))))))))))) (λ rows h. h)

changes_line : Yields is_complete (built_leaf (with_switches changes_app).top)
unfolding changes_app horizon_app
changes_line = leaf_line is_complete (built_leaf (with_switches changes_app).top)
    (set_keeps _ refl refl, (set_keeps _ refl refl, (set_keeps _ refl refl, (set_keeps _ refl refl, (set_keeps _ refl refl, (set_keeps _ refl refl, (set_keeps _ refl refl, (set_keeps _ refl refl, (set_keeps _ refl refl, (flag_keeps _ refl _ refl, (set_keeps _ refl refl, (flag_keeps _ refl _ refl, (flag_keeps _ refl _ refl, (help_keeps _ refl, tt)))))))))))))) (λ rows h. h)

audit_line : Yields is_complete (built_leaf (with_switches audit_app).top)
unfolding audit_app horizon_app
audit_line = leaf_line is_complete (built_leaf (with_switches audit_app).top)
    (set_keeps _ refl refl, (set_keeps _ refl refl, (set_keeps _ refl refl, (set_keeps _ refl refl, (set_keeps _ refl refl, (set_keeps _ refl refl, (set_keeps _ refl refl, (set_keeps _ refl refl, (set_keeps _ refl refl, (flag_keeps _ refl _ refl, (flag_keeps _ refl _ refl, (flag_keeps _ refl _ refl, (set_keeps _ refl refl, (append_keeps _ refl refl, (flag_keeps _ refl _ refl, (flag_keeps _ refl _ refl, (help_keeps _ refl, tt))))))))))))))))) (λ rows h. h)

seal_line : Yields is_complete (built_leaf (with_switches seal_app).top)
unfolding seal_app horizon_app
seal_line = leaf_line is_complete (built_leaf (with_switches seal_app).top)
    (set_keeps _ refl refl, (set_keeps _ refl refl, (set_keeps _ refl refl, (set_keeps _ refl refl, (set_keeps _ refl refl, (set_keeps _ refl refl, (flag_keeps _ refl _ refl, (flag_keeps _ refl _ refl, (help_keeps _ refl, tt))))))))) (λ rows h. h)

recover_line : Yields is_complete (built_leaf (with_switches recover_app).top)
unfolding recover_app horizon_app
recover_line = leaf_line is_complete (built_leaf (with_switches recover_app).top)
    (set_keeps _ refl refl, (set_keeps _ refl refl, (set_keeps _ refl refl, (set_keeps _ refl refl, (set_keeps _ refl refl, (flag_keeps _ refl _ refl, (set_keeps _ refl refl, (flag_keeps _ refl _ refl, (flag_keeps _ refl _ refl, (help_keeps _ refl, tt)))))))))) (λ rows h. h)

replies_line : Yields is_complete (built_leaf (with_switches replies_app).top)
unfolding replies_app horizon_app
replies_line = leaf_line is_complete (built_leaf (with_switches replies_app).top)
    (set_keeps _ refl refl, (set_keeps _ refl refl, (set_keeps _ refl refl, (set_keeps _ refl refl, (set_keeps _ refl refl, (set_keeps _ refl refl, (set_keeps _ refl refl, (set_keeps _ refl refl, (set_keeps _ refl refl, (set_keeps _ refl refl, (set_keeps _ refl refl, (flag_keeps _ refl _ refl, (flag_keeps _ refl _ refl, (set_keeps _ refl refl, (append_keeps _ refl refl, (flag_keeps _ refl _ refl, (flag_keeps _ refl _ refl, (help_keeps _ refl, tt)))))))))))))))))) (λ rows h. h)

told_line : Yields is_complete (built_leaf (with_switches told_app).top)
unfolding told_app horizon_app
told_line = leaf_line is_complete (built_leaf (with_switches told_app).top)
    (set_keeps _ refl refl, (set_keeps _ refl refl, (set_keeps _ refl refl, (set_keeps _ refl refl, (set_keeps _ refl refl, (set_keeps _ refl refl, (set_keeps _ refl refl, (flag_keeps _ refl _ refl, (set_keeps _ refl refl, (flag_keeps _ refl _ refl, (flag_keeps _ refl _ refl, (help_keeps _ refl, tt)))))))))))) (λ rows h. h)

why_line : Yields is_complete (built_leaf (with_switches why_app).top)
unfolding why_app horizon_app
why_line = leaf_line is_complete (built_leaf (with_switches why_app).top)
    (set_keeps _ refl refl, (set_keeps _ refl refl, (set_keeps _ refl refl, (set_keeps _ refl refl, (set_keeps _ refl refl, (set_keeps _ refl refl, (flag_keeps _ refl _ refl, (set_keeps _ refl refl, (flag_keeps _ refl _ refl, (flag_keeps _ refl _ refl, (help_keeps _ refl, tt))))))))))) (λ rows h. h)

explain_line : Yields is_complete (built_leaf (with_switches explain_app).top)
unfolding explain_app
explain_line = leaf_line is_complete (built_leaf (with_switches explain_app).top)
    (set_keeps _ refl refl, (append_keeps _ refl refl, (flag_keeps _ refl _ refl, (flag_keeps _ refl _ refl, (help_keeps _ refl, tt))))) (λ rows h. h)

season_line : Yields is_complete (built_leaf (with_switches season_app).top)
unfolding season_app
season_line = leaf_line is_complete (built_leaf (with_switches season_app).top)
    (set_keeps _ refl refl, (set_keeps _ refl refl, (flag_keeps _ refl _ refl, (flag_keeps _ refl _ refl, (help_keeps _ refl, tt))))) (λ rows h. h)

-- the help that clap adds is met by its own name alone
no_help : (name : Text) → is_no_help name ≡ true → (answers_to name (codes "help", []) ≡ true) → ⊥
no_help name o h = let e : name ≡ codes "help" = sym ((bytes_eq-Decides (codes "help") name).0 (either_true _ h)) in
    let bad : is_no_help (codes "help") ≡ true = subst (λ (n : Text). is_no_help n ≡ true) e o in cc
  where
    either_true : (x : Bool) → (x || false) ≡ true → x ≡ true
    either_true true h = refl
    either_true false h = cc

pub seatdesk_line : (words : List Text) → fault_of seatdesk_app words ≡ []
    → is_answerable (subcommand_of seatdesk_app words) ≡ true
unfolding seatdesk_app asking_app selling_app bare_app named_app ladder_app check_app flights_app cover_app rooms_app loads_app run_app serve_app route_app bookings_app audit_app seal_app recover_app replies_app told_app waiting_app pickup_app history_app avs_app reconcile_app compare_app carry_app changes_app why_app explain_app season_app horizon_app
seatdesk_line words e = line_in is_complete (built seatdesk_app) (argument_words seatdesk_app words) refl refl
    (λ name o. (
      λ _. ladder_line,
      (
        λ _. check_line,
        (
          λ _. flights_line,
          (
            λ _. cover_line,
            (
              λ _. rooms_line,
              (
                λ _. loads_line,
                (
                  λ _. run_line,
                  (λ _. serve_line, (λ _. route_line, (λ _. bookings_line, (λ _. waiting_line, (λ _. pickup_line, (λ _. history_line, (λ _. avs_line, (λ _. reconcile_line, (λ _. compare_line, (λ _. carry_line, (λ _. changes_line, (λ _. audit_line, (λ _. seal_line, (λ _. recover_line, (λ _. replies_line, (λ _. told_line, (λ _. why_line, (λ _. explain_line, (λ _. season_line, (λ h. absurd (no_help name o h), tt)))))))))))))))))))),
                ),
              ),
            ),
          ),
        ),
      ),
    )) e
